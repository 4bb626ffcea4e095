-- What finding imports answers, and how links are kept.
use Rattle.std.specs.Prelude.{◌≡◌, ℕ, ◌+◌, ◌-◌, Bool, if◌then◌else◌, List, [], ◌∷◌, ◌++◌}
use Rattle.std.specs.Prelude.{map, Some, None, IfSome, Result, Ok, Err, Vec, slice_get}
use Rattle.std.specs.List.{flat_map, fold}
use Rattle.std.specs.declared.alloc.Global.{Global}
use Rattle.go_base.specs.Devices.{Tree}
use Rattle.go_base.specs.declared.place.Place.{Place}
use Rattle.go_base.specs.declared.rule.Rule.{Rule}
use Rattle.go_sources.specs.declared.sources.Import as numbers
use Rattle.go_sources.specs.declared.sources.SourceFile.{SourceFile}
use Rattle.go_finding.specs.declared.error.LoadError.{LoadError}
use Rattle.go_finding.specs.declared.error.LoadError.TheVariants.{Refused, ReadFault, OutOfMemory}
use Rattle.go_finding.specs.declared.found.Entry.{Entry}
use Rattle.go_finding.specs.declared.found.Found.{Found}
use Rattle.go_finding.specs.declared.links.Link as code
use Rattle.go_finding.specs.Finding.{view_file, view_origin, AreRight, listed, numbered_files}
use Rattle.go_finding.specs.Modules.{Broken}
use Rattle.go_finding.specs.Programs.{File, Package}
use Rattle.go_finding.specs.Programs.{unfound, import_files, imports_of_files, with_import}
use Rattle.go_finding.specs.Projects.{Project, is_built_in}

-- for each file of a package its imports; those of a built-in package have none
abbrev pub imports_of_each : List (List ℕ) → Package → List (List numbers.Import)
imports_of_each paths one =
    if one.built_in then map (λ file. []) one.files else numbered_files paths one.files

-- for each file of packages its imports
abbrev pub all_imports : List (List ℕ) → List Package → List (List numbers.Import)
all_imports paths packages = flat_map (imports_of_each paths) packages

abbrev pub broken : Place → Rule → Broken
broken place rule = record { place = place; rule = rule }

-- what was found at a number
abbrev pub IfEntry : Found → ℕ → (Entry → Type 0) → Type 0
IfEntry found number Holds = IfSome (slice_get found.entries.items number) Holds

-- for each file its imports, where a built-in package has none
abbrev pub imports_of_all : List (List ℕ) → Bool → List File → List (List numbers.Import)
imports_of_all paths built_in files = if built_in then map (λ file. []) files else numbered_files paths files

-- the answer for the imports of a package's files
abbrev pub PackageImportsFound : Project → Found → Found → Bool → List File
    → Result (Vec (Vec numbers.Import Global) Global) LoadError → Type 0
PackageImportsFound project old new built_in files (Ok all) =
    (unfound project (import_files built_in files) ≡ None)
    × (listed all.items ≡ imports_of_all new.paths built_in files)
    × (new.paths ≡ fold with_import old.paths (imports_of_files (import_files built_in files)))
    × AreRight project new
PackageImportsFound project old new built_in files (Err (Refused place rule)) =
    unfound project (import_files built_in files) ≡ Some (broken place rule)
PackageImportsFound project old new built_in files (Err ReadFault) = Unit {0}
PackageImportsFound project old new built_in files (Err OutOfMemory) = Unit {0}

abbrev pub FindsImportsOf : Tree → ℕ → Found → Found → List SourceFile
    → Result (Vec (Vec numbers.Import Global) Global) LoadError → Type 0
FindsImportsOf files number old new sources result =
    (project : Project) → project.files ≡ files → AreRight project old
    → IfEntry old number
    (λ entry. PackageImportsFound project old new (is_built_in (view_origin entry.origin)) (map view_file sources)
    result)

-- the imports of a file as the loader keeps them
abbrev pub kept_in_file : ℕ → ℕ → List numbers.Import → List code.Link
kept_in_file number file imports =
    map (λ (import : numbers.Import). record {
      edge = record { from = number; to = import.package };
      at = record { file = file; offset = import.literal.start };
    }) imports

-- the imports of files as the loader keeps them; the first file has the number `first`
abbrev pub kept_links : ℕ → ℕ → List (List numbers.Import) → List code.Link
kept_links number first [] = []
kept_links number first (imports ∷ more) = kept_in_file number first imports ++ kept_links number (first + 1) more
