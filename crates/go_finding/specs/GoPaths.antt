-- What the listing of a directory's Go files answers.
use Rattle.std.specs.Prelude.{ℕ, List, map, Result, Ok, Err, Vec, String, string_bytes}
use Rattle.std.specs.declared.alloc.Global.{Global}
use Rattle.go_base.specs.Devices.{Tree}
use Rattle.go_finding.specs.declared.error.LoadError.{LoadError}
use Rattle.go_finding.specs.declared.error.LoadError.TheVariants.{Refused, ReadFault, OutOfMemory}
use Rattle.go_finding.specs.Projects.{AreGoPaths}

-- the answer for a directory
abbrev pub ListsGoPaths : Tree → List ℕ → Result (Vec (String Global) Global) LoadError → Type 0
ListsGoPaths files dir (Ok paths) = AreGoPaths files dir (map string_bytes paths.items)
ListsGoPaths files dir (Err (Refused place rule)) = ⊥
ListsGoPaths files dir (Err ReadFault) = Unit {0}
ListsGoPaths files dir (Err OutOfMemory) = Unit {0}
