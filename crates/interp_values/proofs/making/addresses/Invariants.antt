use Rattle.std.proofs.Common.{◌≡◌, Some, map, take}
use Rattle.go_value.specs.Values.{pointer}
use Rattle.interp_state.specs.Machines.{machine_of}
use Rattle.plan_mean.specs.Operands.{look_at_all}
use Rattle.interp_values.proofs.making.addresses.Given as goal

abbrev pub invariant-loop-arg : goal.invariant-loop-arg
invariant-loop-arg l =
    look_at_all (machine_of l.machine) (take l.arg-index l.args) ≡ Some (map pointer l.captured.items)
