-- What loading answers.
use Rattle.std.specs.Prelude.{◌≡◌, ◌⊎◌, ℕ, List, [], ◌∷◌, map, Option, Some, None, option_map, IfSome, Result, Ok, Err}
use Rattle.go_base.specs.Devices.{Tree}
use Rattle.go_base.specs.declared.place.Place.{Place}
use Rattle.go_base.specs.declared.rule.Rule.{Rule}
use Rattle.go_base.specs.declared.target.Target.{Target}
use Rattle.go_base.specs.declared.target.Target.TheVariants as targets
use Rattle.go_sources.specs.declared.program.Sources.{Sources}
use Rattle.go_sources.specs.Sources.{AreTold, files_of, packages_of}
use Rattle.go_finding.specs.declared.error.LoadError.{LoadError}
use Rattle.go_finding.specs.declared.error.LoadError.TheVariants.{Refused, ReadFault, OutOfMemory}
use Rattle.go_finding.specs.Finding.{listed}
use Rattle.go_load.specs.Loading.{minor_of, view_source, files_from, headers_from}
use Rattle.go_finding.specs.Linking.{broken, all_imports}
use Rattle.go_finding.specs.Modules.{Broken, Module, Governs, IsTargetDir}
use Rattle.go_finding.specs.Programs.{Package, IsResult, known}
use Rattle.go_finding.specs.Projects.{Project}
use Rattle.go_finding.specs.Refusals.{Justifies}

-- the most bytes that all Go files together may have
abbrev pub max_program_bytes : ℕ
max_program_bytes = 67108864

abbrev pub sound_module : Module → Result Module Broken
sound_module root = Ok root

-- the project that a target belongs to: its module breaks no rule, if it has one
pub record IsProjectOf (files : Tree) (target : Target) (limit : ℕ) (project : Project) : Type 0 where
  pub files_are : project.files ≡ files
  pub target_is : project.target ≡ target
  pub limit_is : project.limit ≡ limit
  pub dir : List ℕ
  pub dir_is : IsTargetDir target dir
  pub root : Governs files dir (option_map sound_module project.root)

-- the go.mod that counts for the target breaks a rule
pub record HasBadModule (files : Tree) (target : Target) (at : Broken) : Type 0 where
  pub dir : List ℕ
  pub dir_is : IsTargetDir target dir
  pub bad : Governs files dir (Some (Err at))

-- the project of the target breaks this rule first
pub record IsBadProject (files : Tree) (target : Target) (limit : ℕ) (at : Broken) : Type 0 where
  pub project : Project
  pub project_is : IsProjectOf files target limit project
  pub result : IsResult project (Err at)

-- what is loaded of these files breaks this rule first
abbrev pub BreaksFirst : Tree → Target → ℕ → Broken → Type 0
BreaksFirst files target limit at = HasBadModule files target at ⊎ IsBadProject files target limit at

-- sources are a project's packages
pub record IsSourcesOf (project : Project) (packages : List Package) (sources : Sources) : Type 0 where
  pub files : map view_source (files_of sources) ≡ files_from 0 packages
  pub headers : packages_of sources ≡ headers_from 0 0 packages
  pub imports : listed sources.imports.items ≡ all_imports (known project packages) packages
  pub minor : sources.minor ≡ minor_of project.root

-- sources are the program that these files have for the target
pub record AreSourcesOf (files : Tree) (target : Target) (limit : ℕ) (sources : Sources) : Type 0 where
  pub project : Project
  pub packages : List Package
  pub project_is : IsProjectOf files target limit project
  pub result : IsResult project (Ok packages)
  pub sources_are : IsSourcesOf project packages sources

-- an answer of the code; a failed device and want of memory are free
abbrev pub IsAnswer : Tree → Target → ℕ → Result Sources LoadError → Type 0
IsAnswer files target limit (Ok sources) = AreSourcesOf files target limit sources
IsAnswer files target limit (Err (Refused place rule)) = BreaksFirst files target limit (broken place rule)
IsAnswer files target limit (Err ReadFault) = Unit {0}
IsAnswer files target limit (Err OutOfMemory) = Unit {0}

-- an answer of the code for a project whose module breaks no rule
abbrev pub IsAnswerIn : Project → Result Sources LoadError → Type 0
IsAnswerIn project (Ok sources) =
    (packages : List Package) × IsResult project (Ok packages) × IsSourcesOf project packages sources
IsAnswerIn project (Err (Refused place rule)) = IsResult project (Err (broken place rule))
IsAnswerIn project (Err ReadFault) = Unit {0}
IsAnswerIn project (Err OutOfMemory) = Unit {0}

-- the program of one file, which lies in no module, whatever its name
abbrev pub lone_project : List ℕ → List ℕ → Project
lone_project name bytes =
    record { files = (name, bytes) ∷ []; root = None; target = targets.File name; limit = max_program_bytes }

-- ---- of files alone, and of those that are not told

-- What a program that was loaded is: each file has the bytes that the files tell for its path, or is that of a built-in
-- package; and where files are told, these are the packages of the target's program, with their files and imports.
pub record IsLoaded (files : Option Tree) (target : Target) (sources : Sources) : Type 0 where
  pub told : AreTold files (files_of sources)
  pub program : IfSome files (λ tree. AreSourcesOf tree target max_program_bytes sources)

-- the rule that the files break first, and the place
pub record Breaks (files : Option Tree) (target : Target) (place : Place) (rule : Rule) : Type 0 where
  pub cause : Justifies files place rule
  pub first : IfSome files (λ tree. BreaksFirst tree target max_program_bytes (broken place rule))

abbrev pub HasStopped : Option Tree → Target → LoadError → Type 0
HasStopped files target (Refused place rule) = Breaks files target place rule
HasStopped files target ReadFault = Unit {0}
HasStopped files target OutOfMemory = Unit {0}
