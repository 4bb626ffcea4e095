-- The module to which a directory belongs.
use Rattle.std.specs.Prelude.{◌≡◌, ◌⊎◌, ℕ, ◌<◌, min, nat_lt, List, length, Option, Some, None, option_map, Vec, Result}
use Rattle.std.specs.Prelude.{Ok, Err, string_bytes, codes, if◌then◌else◌}
use Rattle.std.specs.declared.alloc.Global.{Global}
use Rattle.go_base.specs.Devices.{Tree, file_at}
use Rattle.go_base.specs.declared.line.TheConstants.{MAX_FILE_BYTES}
use Rattle.go_base.specs.declared.place.Place.{Place}
use Rattle.go_base.specs.declared.rule.Rule.{Rule}
use Rattle.go_base.specs.declared.rule.Rule.TheVariants as rules
use Rattle.go_base.specs.declared.target.Target.{Target}
use Rattle.go_base.specs.declared.target.Target.TheVariants as targets
use Rattle.go_sources.specs.declared.program.Sources.{Sources}
use Rattle.go_sources.specs.Places.{place_in}
use Rattle.go_finding.specs.declared.error.LoadError.{LoadError}
use Rattle.go_finding.specs.declared.error.LoadError.TheVariants.{Refused, ReadFault, OutOfMemory}
use Rattle.go_finding.specs.declared.find_module.Module as code
use Rattle.go_finding.specs.declared.go_mod.Fault.{Fault}
use Rattle.go_finding.specs.GoMod.{Contents, go_mod}
use Rattle.go_finding.specs.Paths.{path_in, LiesIn}
use Rattle.go_finding.specs.Places.{first_place}

-- a rule that is broken, and where
pub record Broken : Type 0 where
  pub place : Place
  pub rule : Rule

-- a module: the directory of its go.mod, its path, and the N of Go 1.N
pub record Module : Type 0 where
  pub dir : List ℕ
  pub path : List ℕ
  pub minor : ℕ

abbrev pub go_mod_in : List ℕ → List ℕ
go_mod_in dir = path_in dir (codes "go.mod")

abbrev pub module_said : List ℕ → List ℕ → Result Contents Fault → Result Module Broken
module_said dir bytes (Ok said) = Ok (record { dir = dir; path = said.path; minor = said.minor })
module_said dir bytes (Err fault) =
    Err (record { place = place_in (go_mod_in dir) bytes (min fault.offset (length bytes)); rule = fault.rule })

-- the module of a directory whose go.mod has these bytes
abbrev pub module_of : List ℕ → List ℕ → Result Module Broken
module_of dir bytes =
    if nat_lt MAX_FILE_BYTES (length bytes)
    then Err (record { place = first_place (go_mod_in dir); rule = rules.FileTooLarge })
    else module_said dir bytes (go_mod bytes)

-- what a directory's own go.mod says, if it has one
abbrev pub own_module : Tree → List ℕ → Option (Result Module Broken)
own_module files dir = option_map (module_of dir) (file_at files (go_mod_in dir))

-- The go.mod of the directory counts, else that of the nearest directory above that has one.
pub data Governs (files : Tree) : List ℕ → Option (Result Module Broken) → Type 0 where
  Own : (dir : List ℕ) (said : Result Module Broken) → own_module files dir ≡ Some said → Governs files dir (Some said)
  Nowhere : (dir : List ℕ) → own_module files dir ≡ None → LiesIn dir None → Governs files dir None
  Above : (dir above : List ℕ) (said : Option (Result Module Broken)) → own_module files dir ≡ None
      → LiesIn dir (Some above) → Governs files above said → Governs files dir said

abbrev pub view_module : code.Module → Module
view_module root = record { dir = string_bytes root.dir; path = string_bytes root.path; minor = root.minor }

-- an answer of the code; a failed device and want of memory are free
abbrev pub AnswersModule : Result (Option code.Module) LoadError → (Option (Result Module Broken) → Type 0) → Type 0
AnswersModule (Ok None) Holds = Holds None
AnswersModule (Ok (Some root)) Holds = Holds (Some (Ok (view_module root)))
AnswersModule (Err (Refused place rule)) Holds = Holds (Some (Err (record { place = place; rule = rule })))
AnswersModule (Err ReadFault) Holds = Unit {0}
AnswersModule (Err OutOfMemory) Holds = Unit {0}

-- an answer of the code to the reading of a whole file
abbrev pub ReadsWhole : Tree → List ℕ → Result (Option (Vec ℕ Global)) LoadError → Type 0
ReadsWhole files path (Ok None) = file_at files path ≡ None
ReadsWhole files path (Ok (Some bytes)) = file_at files path ≡ Some bytes.items
ReadsWhole files path (Err (Refused place rule)) =
    (bytes : List ℕ) × (file_at files path ≡ Some bytes) × (MAX_FILE_BYTES < length bytes) × (place ≡ first_place path)
    × (rule ≡ rules.FileTooLarge)
ReadsWhole files path (Err ReadFault) = Unit {0}
ReadsWhole files path (Err OutOfMemory) = Unit {0}

-- the directory in which the go.mod of a target is looked for first
abbrev pub IsTargetDir : Target → List ℕ → Type 0
IsTargetDir (targets.File path) dir = LiesIn path (Some dir) ⊎ ((path ≡ codes ".") × (dir ≡ codes "."))
IsTargetDir (targets.Dir path) dir = dir ≡ path

-- the go.mod that counts for a directory breaks no rule
abbrev pub IsSound : Option (Result Module Broken) → Type 0
IsSound None = Unit {0}
IsSound (Some (Ok root)) = Unit {0}
IsSound (Some (Err broken)) = ⊥

abbrev pub HasModule : Tree → List ℕ → Type 0
HasModule files dir = (said : Option (Result Module Broken)) × Governs files dir said × IsSound said

-- a program is loaded, or refused for another reason, only where its go.mod breaks no rule
abbrev pub RespectsGoModIn : Tree → List ℕ → Result Sources LoadError → Type 0
RespectsGoModIn files dir (Ok sources) = HasModule files dir
RespectsGoModIn files dir (Err (Refused place rule)) =
    Governs files dir (Some (Err (record { place = place; rule = rule }))) ⊎ HasModule files dir
RespectsGoModIn files dir (Err ReadFault) = Unit {0}
RespectsGoModIn files dir (Err OutOfMemory) = Unit {0}

abbrev pub RespectsGoMod : Tree → Target → Result Sources LoadError → Type 0
RespectsGoMod files target result = (dir : List ℕ) × IsTargetDir target dir × RespectsGoModIn files dir result
