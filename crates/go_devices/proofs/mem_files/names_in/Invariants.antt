use Rattle.std.proofs.Common.{◌≡◌, ◌++◌, map, string_bytes}
use Rattle.go_base.specs.Devices.{names_in}
use Rattle.go_devices.specs.Memory.{tree_of}
use Rattle.go_devices.proofs.Trees.{IsDistinctTree}
use Rattle.go_devices.proofs.mem_files.names_in.Given as goal

abbrev pub invariant-loop-path : goal.invariant-loop-path
invariant-loop-path l = record {
  named : map string_bytes l.names.items ++ names_in l.dir (tree_of l.path-iterator) ≡ names_in l.dir (tree_of l.files.entries);
  distinct : IsDistinctTree (tree_of l.path-iterator);
}
