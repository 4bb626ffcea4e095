use Rattle.std.proofs.Common.{◌≡◌}
use Rattle.go_base.specs.Devices.{is_directory}
use Rattle.go_devices.specs.Memory.{tree_of}
use Rattle.go_devices.proofs.mem_files.is_directory.Given as goal

abbrev pub invariant-loop-path : goal.invariant-loop-path
invariant-loop-path l = is_directory (tree_of l.path-iterator) l.dir ≡ is_directory (tree_of l.files.entries) l.dir
