-- What the loading of packages answers.
use Rattle.std.specs.Prelude.{◌≡◌, ◌⊎◌, ℕ, ◌+◌, ◌-◌, min, Bool, true, false, if◌then◌else◌, List, [], ◌∷◌, ◌++◌}
use Rattle.std.specs.Prelude.{length, map, Option, Some, None, unwrap_or, Result, Ok, Err, Vec, slice_get}
use Rattle.std.specs.Prelude.{bytes_eq, ◌&&◌, ◌==◌, codes, string_bytes}
use Rattle.std.specs.List.{AllByRecursion, AllZip, flat_map, fold, list_any, sum_by}
use Rattle.std.specs.declared.alloc.Global.{Global}
use Rattle.go_base.specs.Devices.{Tree}
use Rattle.go_base.specs.declared.place.Place.{Place}
use Rattle.go_base.specs.declared.rule.Rule.TheVariants as rules
use Rattle.go_sources.specs.declared.sources.Import as numbers
use Rattle.go_sources.specs.declared.sources.SourceFile.{SourceFile}
use Rattle.go_sources.specs.declared.sources.SourcePackage.{SourcePackage}
use Rattle.go_sources.specs.Sources.{newest_minor}
use Rattle.go_sources.specs.Places.{place_in}
use Rattle.go_finding.specs.declared.error.LoadError.{LoadError}
use Rattle.go_finding.specs.declared.error.LoadError.TheVariants.{Refused, ReadFault, OutOfMemory}
use Rattle.go_finding.specs.declared.found.Entry.{Entry}
use Rattle.go_finding.specs.declared.links.Link as code
use Rattle.go_load.specs.declared.loader.Loader.{Loader}
use Rattle.go_load.specs.FileReading.{AnswersBy, view_files}
use Rattle.go_finding.specs.Finding.{view_file, view_origin, AreRight, listed}
use Rattle.go_finding.specs.Imports.{Import, import_path}
use Rattle.go_finding.specs.Modules.{Broken, Module}
use Rattle.go_finding.specs.Programs.{File, Package, Link, IsPackage, BreaksPackage, IsFront, ReadsAll, name_fault}
use Rattle.go_finding.specs.Programs.{path_asked, first_of_program, links, AreImportsSound, IsNext, IsOnCycleFirst}
use Rattle.go_finding.specs.Programs.{imports_of_package, with_import, known}
use Rattle.go_finding.specs.Programs.{links_from, room_for, are_program}
use Rattle.go_finding.specs.Projects.{Project, Origin, texts_of, is_built_in}
use Rattle.go_finding.specs.Reading.{max_file_bytes}
use Rattle.go_finding.specs.Linking.{all_imports, broken, IfEntry, kept_links}

-- ---- what a loader holds

-- a file, and the number of its package
abbrev pub view_source : SourceFile → File × ℕ
view_source file = (view_file file, file.package)

-- the files of packages, of which the first has this number
abbrev pub files_from : ℕ → List Package → List (File × ℕ)
files_from number [] = []
files_from number (one ∷ packages) = map (λ file. (file, number)) one.files ++ files_from (number + 1) packages

abbrev pub label_of : ℕ → Package → List ℕ
label_of number one = if (number == 0) && are_program one.files then codes "main" else one.path

abbrev pub header : ℕ → ℕ → Package → SourcePackage
header number first one =
    record { path = one.path; label = label_of number one; built_in = one.built_in; first_file = first }

-- packages as they are told, of which the first has this number, and its first file that one
abbrev pub headers_from : ℕ → ℕ → List Package → List SourcePackage
headers_from number first [] = []
headers_from number first (one ∷ packages) =
    header number first one ∷ headers_from (number + 1) (first + length one.files) packages

-- an import as the loader keeps it: its place is in a file that was loaded
pub record IsLink (files : List SourceFile) (kept : code.Link) (link : Link) : Type 0 where
  pub from : kept.edge.from ≡ link.from
  pub to : kept.edge.to ≡ link.to
  pub file : SourceFile
  pub file_is : slice_get files kept.at.file ≡ Some file
  pub place : link.place ≡ place_in file.path file.bytes (min kept.at.offset (length file.bytes))

-- the paths of imports are among these
abbrev pub AreKnown : List (List ℕ) → List Import → Type 0
AreKnown paths imports = AllByRecursion (λ import. list_any (bytes_eq (import_path import)) paths ≡ true) imports

-- The loader holds these packages, and the paths that are known.
pub record Holds (project : Project) (loader : Loader) (packages : List Package) : Type 0 where
  pub right : AreRight project loader.found
  pub target : loader.target ≡ path_asked project.target
  pub files : map view_source loader.files.items ≡ files_from 0 packages
  pub headers : loader.packages.items ≡ headers_from 0 0 packages
  pub imports : listed loader.imports.items ≡ all_imports loader.found.paths packages
  pub links : AllZip (IsLink loader.files.items) loader.links.items (links_from loader.found.paths 0 packages)
  pub programs : loader.programs.items ≡ map (λ one. are_program one.files) packages
  pub left : loader.left ≡ room_for project packages false
  pub met : AreKnown loader.found.paths (flat_map imports_of_package packages)

-- The loader holds the packages that are loaded first, and the paths that they make known.
pub record IsAt (project : Project) (loader : Loader) (packages : List Package) : Type 0 where
  pub holds : Holds project loader packages
  pub paths : loader.found.paths ≡ known project packages
  pub front : IsFront project packages

-- the N of Go 1.N of a program: that of its module, else the newest
abbrev pub minor_of : Option Module → ℕ
minor_of None = newest_minor
minor_of (Some root) = root.minor

-- ---- answers

-- an answer that names the first rule that is broken, if there is one
abbrev pub Checks : {X : Type 0} → Option Broken → Result X LoadError → Type 0
Checks fault (Ok x) = fault ≡ None
Checks fault (Err (Refused place rule)) = fault ≡ Some (broken place rule)
Checks fault (Err ReadFault) = Unit {0}
Checks fault (Err OutOfMemory) = Unit {0}

-- the answer for files that are to be found here
abbrev pub LoadsOrigin : Tree → ℕ → Origin → Result (Vec SourceFile Global) LoadError → Type 0
LoadsOrigin files left origin result =
    AnswersBy view_files (ReadsAll (if is_built_in origin then max_file_bytes else left) (texts_of files origin)) result

-- the answer for the files of a package
abbrev pub LoadsFiles : Tree → ℕ → Loader → Result (Vec SourceFile Global) LoadError → Type 0
LoadsFiles files number loader result =
    IfEntry loader.found number (λ entry. LoadsOrigin files loader.left (view_origin entry.origin) result)

-- the answer of the check of a package's files
abbrev pub ChecksFiles : ℕ → Loader → List SourceFile → Result (Unit {0}) LoadError → Type 0
ChecksFiles number loader sources result =
    (project : Project) (room : ℕ) → AreRight project loader.found → loader.target ≡ path_asked project.target
    → IfEntry loader.found number
    (λ entry. ReadsAll room (texts_of project.files (view_origin entry.origin)) (Ok (map view_file sources)))
    → Checks (name_fault project.target (map view_file sources)) result

-- a package as it is told
abbrev pub told_package : ℕ → ℕ → Entry → List File → SourcePackage
told_package number first entry files =
    record {
      path = string_bytes entry.path;
      label = if (number == 0) && are_program files then codes "main"
          else string_bytes entry.path;
      built_in = is_built_in (view_origin entry.origin);
      first_file = first;
    }

-- a package is added, with its files and their imports
pub record AddsPackage (number : ℕ) (told : SourcePackage) (old new : Loader) (sources : List SourceFile)
    (imports : List (Vec numbers.Import Global)) : Type 0 where
  pub found : new.found ≡ old.found
  pub target : new.target ≡ old.target
  pub files : new.files.items ≡ old.files.items ++ sources
  pub imports_are : new.imports.items ≡ old.imports.items ++ imports
  pub links_are : new.links.items ≡ old.links.items ++ kept_links number (length old.files.items) (listed imports)
  pub programs : new.programs.items ≡ old.programs.items ++ are_program (map view_file sources) ∷ []
  pub headers : new.packages.items ≡ old.packages.items ++ told ∷ []
  pub left :
      new.left ≡ (if told.built_in then old.left
      else old.left - sum_by (λ file. length file.bytes) (map view_file sources))

-- the answer for a package: it is sound, and is held behind the others, or it breaks a rule
abbrev pub PackageLoaded : Project → List Package → Loader → Loader → Result (Unit {0}) LoadError → Type 0
PackageLoaded project packages old new (Ok x) =
    (one : Package) × (slice_get old.found.paths (length packages) ≡ Some one.path) × IsPackage project packages one
    × Holds project new (packages ++ one ∷ [])
    × (new.found.paths ≡ fold with_import old.found.paths (imports_of_package one))
PackageLoaded project packages old new (Err (Refused place rule)) =
    (path : List ℕ) × (slice_get old.found.paths (length packages) ≡ Some path)
    × BreaksPackage project packages path (broken place rule)
PackageLoaded project packages old new (Err ReadFault) = Unit {0}
PackageLoaded project packages old new (Err OutOfMemory) = Unit {0}

abbrev pub LoadsPackage : Tree → ℕ → Loader → Loader → Result (Unit {0}) LoadError → Type 0
LoadsPackage files number old new result =
    (project : Project) (packages : List Package) → project.files ≡ files → Holds project old packages
    → number ≡ length packages
    → PackageLoaded project packages old new result

-- the next package breaks a rule
pub record IsBrokenBehind (project : Project) (at : Broken) : Type 0 where
  pub packages : List Package
  pub path : List ℕ
  pub front : IsFront project packages
  pub next : IsNext project packages path
  pub breaks : BreaksPackage project packages path at

-- the loader holds all that imports name
pub record IsDone (project : Project) (loader : Loader) : Type 0 where
  pub packages : List Package
  pub at : IsAt project loader packages
  pub complete : length loader.found.entries.items ≡ length packages

-- the answer for all packages
abbrev pub QueueLoaded : Project → Loader → Result (Unit {0}) LoadError → Type 0
QueueLoaded project new (Ok x) = IsDone project new
QueueLoaded project new (Err (Refused place rule)) = IsBrokenBehind project (broken place rule)
QueueLoaded project new (Err ReadFault) = Unit {0}
QueueLoaded project new (Err OutOfMemory) = Unit {0}

abbrev pub LoadsQueue : Tree → Loader → Loader → Result (Unit {0}) LoadError → Type 0
LoadsQueue files old new result =
    (project : Project) (packages : List Package) → project.files ≡ files → IsAt project old packages
    → QueueLoaded project new result

-- whether the package with a number is a program, by a list for all packages
abbrev pub is_program_number : List Bool → ℕ → Bool
is_program_number programs number = unwrap_or (slice_get programs number) false

abbrev pub is_of_program : List Bool → code.Link → Bool
is_of_program programs link = is_program_number programs link.edge.to

-- an import is the first of a program
pub record IsFirstOfProgram (project : Project) (packages : List Package) (place : Place) : Type 0 where
  pub link : Link
  pub first : first_of_program project packages ≡ Some link
  pub place_is : place ≡ link.place

-- no import is of a program, and one is the first on a cycle
pub record IsFirstOnImportCycle (project : Project) (packages : List Package) (place : Place) : Type 0 where
  pub index : ℕ
  pub link : Link
  pub no_program : first_of_program project packages ≡ None
  pub first : IsOnCycleFirst project packages (Some index)
  pub link_is : slice_get (links project packages) index ≡ Some link
  pub place_is : place ≡ link.place

-- the answer of the check of all imports
abbrev pub ImportsChecked : Project → List Package → Result (Unit {0}) LoadError → Type 0
ImportsChecked project packages (Ok x) = AreImportsSound project packages
ImportsChecked project packages (Err (Refused place rule)) =
    (IsFirstOfProgram project packages place × (rule ≡ rules.ImportOfAProgram))
    ⊎ (IsFirstOnImportCycle project packages place × (rule ≡ rules.ImportCycle))
ImportsChecked project packages (Err ReadFault) = Unit {0}
ImportsChecked project packages (Err OutOfMemory) = Unit {0}

abbrev pub ChecksImports : Loader → Result (Unit {0}) LoadError → Type 0
ChecksImports loader result =
    (project : Project) (packages : List Package) → Holds project loader packages
    → loader.found.paths ≡ known project packages
    → ImportsChecked project packages result
