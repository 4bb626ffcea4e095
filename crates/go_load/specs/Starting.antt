-- What the finding of the target answers, and the loading of all that it imports.
use Rattle.std.specs.Prelude.{◌≡◌, ℕ, false, List, [], ◌∷◌, length, map, Option, option_map, Result, Ok, Err, Vec}
use Rattle.std.specs.Prelude.{String, string_bytes}
use Rattle.std.specs.declared.alloc.Global.{Global}
use Rattle.go_base.specs.Devices.{Tree}
use Rattle.go_base.specs.declared.target.Target.{Target}
use Rattle.go_sources.specs.declared.program.Sources.{Sources}
use Rattle.go_finding.specs.declared.error.LoadError.{LoadError}
use Rattle.go_finding.specs.declared.error.LoadError.TheVariants.{Refused, ReadFault, OutOfMemory}
use Rattle.go_finding.specs.declared.find_module.Module as modules
use Rattle.go_finding.specs.declared.found.Found.{Found}
use Rattle.go_load.specs.declared.loader.Loader.{Loader}
use Rattle.go_load.specs.Answers.{IsAnswerIn}
use Rattle.go_finding.specs.Finding.{AreRight, listed}
use Rattle.go_load.specs.Loading.{Holds, IsAt}
use Rattle.go_finding.specs.Linking.{all_imports, broken}
use Rattle.go_finding.specs.Modules.{view_module}
use Rattle.go_finding.specs.Programs.{Package, BreaksPackage, IsWithRuntime, has_runtime, known, runtime_path}
use Rattle.go_finding.specs.Projects.{Project, Paths, IsOriginOfTarget, target_path}

-- the project of a target in these files, whose module is this one
abbrev pub project_with : Tree → Option modules.Module → Target → ℕ → Project
project_with files root target limit =
    record { files = files; root = option_map view_module root; target = target; limit = limit }

-- the answer for the files of the target
abbrev pub ListsTarget : Tree → Target → Result (Vec (String Global) Global) LoadError → Type 0
ListsTarget files target (Ok paths) = IsOriginOfTarget files target (Paths (map string_bytes paths.items))
ListsTarget files target (Err (Refused place rule)) = ⊥
ListsTarget files target (Err ReadFault) = Unit {0}
ListsTarget files target (Err OutOfMemory) = Unit {0}

-- the target alone is found
pub record BeginsProject (project : Project) (found : Found) : Type 0 where
  pub right : AreRight project found
  pub paths : found.paths ≡ target_path project ∷ []

-- the answer for the package of the target
abbrev pub FindsTarget : Tree → Option modules.Module → Target → Result Found LoadError → Type 0
FindsTarget files root target (Ok found) = (limit : ℕ) → BeginsProject (project_with files root target limit) found
FindsTarget files root target (Err (Refused place rule)) = ⊥
FindsTarget files root target (Err ReadFault) = Unit {0}
FindsTarget files root target (Err OutOfMemory) = Unit {0}

-- the loader holds all packages, with `runtime`
pub record HoldsAll (project : Project) (packages : List Package) (loader : Loader) : Type 0 where
  pub all : List Package
  pub with_runtime : IsWithRuntime project packages all
  pub holds : Holds project loader all
  pub imports : listed loader.imports.items ≡ all_imports (known project all) all

-- the answer for the package `runtime`, behind others
abbrev pub RuntimeLoaded : Project → List Package → Loader → Result (Unit {0}) LoadError → Type 0
RuntimeLoaded project packages new (Ok x) = HoldsAll project packages new
RuntimeLoaded project packages new (Err (Refused place rule)) =
    (has_runtime project packages ≡ false) × BreaksPackage project packages runtime_path (broken place rule)
RuntimeLoaded project packages new (Err ReadFault) = Unit {0}
RuntimeLoaded project packages new (Err OutOfMemory) = Unit {0}

abbrev pub LoadsRuntime : Tree → Loader → Loader → Result (Unit {0}) LoadError → Type 0
LoadsRuntime files old new result =
    (project : Project) (packages : List Package) → project.files ≡ files → IsAt project old packages
    → length old.found.entries.items ≡ length packages
    → RuntimeLoaded project packages new result

-- the answer for the program of a target whose module is this one
abbrev pub AnswersProject : Tree → Option modules.Module → Target → ℕ → Result Sources LoadError → Type 0
AnswersProject files root target limit result = IsAnswerIn (project_with files root target limit) result

abbrev pub Finishes : Tree → Loader → Result Sources LoadError → Type 0
Finishes files loader result =
    (project : Project) → project.files ≡ files → IsAt project loader [] → IsAnswerIn project result
