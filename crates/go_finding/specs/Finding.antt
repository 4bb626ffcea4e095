-- What the finding of packages answers.
use Rattle.std.specs.Prelude.{◌≡◌, ℕ, zero, true, false, List, [], ◌∷◌, map, Option, Some, None, option_map, unwrap_or}
use Rattle.std.specs.Prelude.{IfSome, Result, Ok, Err, Vec, String, string_bytes, slice_get, suc}
use Rattle.std.specs.List.{fold}
use Rattle.std.specs.declared.alloc.Global.{Global}
use Rattle.go_ast.specs.declared.token.Token.{Token}
use Rattle.go_base.specs.Devices.{Tree}
use Rattle.go_base.specs.NameTable.{place_of, with_text}
use Rattle.go_base.specs.declared.place.Pos.{Pos}
use Rattle.go_base.specs.declared.rule.Rule.TheVariants as rules
use Rattle.go_sources.specs.declared.sources.Import as numbers
use Rattle.go_sources.specs.declared.sources.SourceFile.{SourceFile}
use Rattle.go_sources.specs.Packages.{text_in}
use Rattle.go_finding.specs.declared.error.LoadError.{LoadError}
use Rattle.go_finding.specs.declared.error.LoadError.TheVariants.{Refused, ReadFault, OutOfMemory}
use Rattle.go_finding.specs.declared.find_module.Module as modules
use Rattle.go_finding.specs.declared.found.Entry.{Entry}
use Rattle.go_finding.specs.declared.found.Found.{Found}
use Rattle.go_finding.specs.declared.found.Origin as origins
use Rattle.go_finding.specs.declared.found.Origin.TheVariants as code
use Rattle.go_finding.specs.Imports.{Import, import_path, written_path}
use Rattle.go_finding.specs.Modules.{Broken, view_module}
use Rattle.go_finding.specs.Programs.{File, broken_at, imports_in, imports_of_files, unfound_of, unfound, with_import}
use Rattle.go_finding.specs.Projects.{Project, Origin, BuiltInFile, Paths, IsOriginAt, target_path, is_found}
use Rattle.go_finding.specs.Projects.{is_import_found}

abbrev pub view_file : SourceFile → File
view_file file = record { path = file.path; bytes = file.bytes; tree = file.tree }

abbrev pub view_origin : origins.Origin → Origin
view_origin (code.Paths paths) = Paths (map string_bytes paths.items)
view_origin (code.BuiltIn built_in) = BuiltInFile built_in

-- only the target is asked for by no import
abbrev pub IsAsked : ℕ → Option Pos → Type 0
IsAsked zero asker = asker ≡ None
IsAsked (suc index) asker = Unit {0}

-- what was found at an index is what its path names
pub record IsRightAt (project : Project) (index : ℕ) (entry : Entry) : Type 0 where
  pub origin : IsOriginAt project index (string_bytes entry.path) (view_origin entry.origin)
  pub asked : IsAsked index entry.asker

-- what was found of a project
pub record AreRight (project : Project) (found : Found) : Type 0 where
  pub root : option_map view_module found.root ≡ project.root
  pub paths : found.paths ≡ map (λ (entry : Entry). string_bytes entry.path) found.entries.items
  pub target : slice_get found.paths 0 ≡ Some (target_path project)
  pub entries : (index : ℕ) → IfSome (slice_get found.entries.items index) (IsRightAt project index)

-- the target alone is found
pub record BeginsWith (root : Option modules.Module) (path : List ℕ) (files : Vec (String Global) Global)
    (found : Found) : Type 0 where
  pub same : found.root ≡ root
  pub paths : found.paths ≡ path ∷ []
  pub entry : Entry
  pub entries : found.entries.items ≡ entry ∷ []
  pub path_is : string_bytes entry.path ≡ path
  pub origin : entry.origin ≡ code.Paths files
  pub asker : entry.asker ≡ None

-- a path is among those found now, and has this number
pub record Joins (project : Project) (old new : Found) (path : List ℕ) (number : ℕ) : Type 0 where
  pub number_is : number ≡ place_of path old.paths
  pub paths : new.paths ≡ with_text path old.paths
  pub right : AreRight project new

-- the answer for an import path
abbrev pub PackageFound : Project → Found → Found → List ℕ → Result (Option ℕ) LoadError → Type 0
PackageFound project old new path (Ok None) = is_found project path ≡ false
PackageFound project old new path (Ok (Some number)) =
    (is_found project path ≡ true) × Joins project old new path number
PackageFound project old new path (Err (Refused place rule)) = ⊥
PackageFound project old new path (Err ReadFault) = Unit {0}
PackageFound project old new path (Err OutOfMemory) = Unit {0}

abbrev pub FindsPackage : Tree → Found → Found → List ℕ → Result (Option ℕ) LoadError → Type 0
FindsPackage files old new path result =
    (project : Project) → project.files ≡ files → AreRight project old → PackageFound project old new path result

-- a rule is broken by a literal of an import
abbrev pub IsUnfoundAt : File → Token → Broken → Type 0
IsUnfoundAt file literal broken = broken ≡ broken_at file literal rules.NoSuchPackage

-- the answer for an import of a file
abbrev pub ImportFound : Project → Found → Found → File → Token → Option (List ℕ) → Result ℕ LoadError → Type 0
ImportFound project old new file literal path (Ok number) =
    (is_import_found project path ≡ true) × Joins project old new (unwrap_or path []) number
ImportFound project old new file literal path (Err (Refused place rule)) =
    (is_import_found project path ≡ false) × IsUnfoundAt file literal (record { place = place; rule = rule })
ImportFound project old new file literal path (Err ReadFault) = Unit {0}
ImportFound project old new file literal path (Err OutOfMemory) = Unit {0}

abbrev pub FindsImport : Tree → Found → Found → SourceFile → Token → Result ℕ LoadError → Type 0
FindsImport files old new source literal result =
    (project : Project) → project.files ≡ files → AreRight project old
    → ImportFound project old new (view_file source) literal (written_path (text_in source.bytes literal)) result

-- imports with the numbers of their packages among these paths
abbrev pub numbered : List (List ℕ) → List Import → List numbers.Import
numbered paths imports =
    map (λ import. record { literal = import.literal; «package» = place_of (import_path import) paths }) imports

-- the answer for the imports of a file
abbrev pub ImportsFound : Project → Found → Found → File → Result (Vec numbers.Import Global) LoadError → Type 0
ImportsFound project old new file (Ok imports) =
    (unfound_of project file (imports_in file) ≡ None)
    × (imports.items ≡ numbered new.paths (imports_in file))
    × (new.paths ≡ fold with_import old.paths (imports_in file))
    × AreRight project new
ImportsFound project old new file (Err (Refused place rule)) =
    unfound_of project file (imports_in file) ≡ Some (record { place = place; rule = rule })
ImportsFound project old new file (Err ReadFault) = Unit {0}
ImportsFound project old new file (Err OutOfMemory) = Unit {0}

abbrev pub FindsImports : Tree → Found → Found → SourceFile → Result (Vec numbers.Import Global) LoadError → Type 0
FindsImports files old new source result =
    (project : Project) → project.files ≡ files → AreRight project old
    → ImportsFound project old new (view_file source) result

-- the imports of files, one list for each
abbrev pub listed : List (Vec numbers.Import Global) → List (List numbers.Import)
listed all = map (λ (imports : Vec numbers.Import Global). imports.items) all

abbrev pub numbered_files : List (List ℕ) → List File → List (List numbers.Import)
numbered_files paths files = map (λ file. numbered paths (imports_in file)) files

-- the answer for the imports of files
abbrev pub AllFound : Project → Found → Found → List File → Result (Vec (Vec numbers.Import Global) Global) LoadError
    → Type 0
AllFound project old new files (Ok all) =
    (unfound project files ≡ None)
    × (listed all.items ≡ numbered_files new.paths files)
    × (new.paths ≡ fold with_import old.paths (imports_of_files files))
    × AreRight project new
AllFound project old new files (Err (Refused place rule)) =
    unfound project files ≡ Some (record { place = place; rule = rule })
AllFound project old new files (Err ReadFault) = Unit {0}
AllFound project old new files (Err OutOfMemory) = Unit {0}

abbrev pub FindsAll : Tree → Found → Found → List SourceFile → Result (Vec (Vec numbers.Import Global) Global) LoadError
    → Type 0
FindsAll files old new sources result =
    (project : Project) → project.files ≡ files → AreRight project old
    → AllFound project old new (map view_file sources) result
