-- What a device in memory holds.
use Rattle.std.specs.Prelude.{ℕ, List, map, Vec, String, string_bytes}
use Rattle.std.specs.declared.alloc.Global.{Global}
use Rattle.go_base.specs.Devices.{Tree}
use Rattle.go_devices.specs.CallPlan.{CallPlan}

pub record MemSinkState : Type 0 where
  pub bytes : List ℕ
  pub plan : CallPlan

pub record MemFilesState : Type 0 where
  -- no two have one path
  pub files : Tree
  pub plan : CallPlan

-- the files of a map
abbrev pub tree_of : List (String Global × Vec ℕ Global) → Tree
tree_of entries = map (λ entry. (string_bytes entry.0, entry.1.items)) entries
