use Rattle.std.proofs.Common.{◌≤◌}
use Rattle.go_devices.proofs.real_files.list_names.Given as goal

abbrev pub invariant-loop-entry : goal.invariant-loop-entry
invariant-loop-entry g l = l.count ≤ 1048576
