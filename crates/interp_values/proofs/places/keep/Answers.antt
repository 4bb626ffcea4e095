use Rattle.std.proofs.Common.{refl}
use Rattle.go_value.specs.Values.{value_of}
use Rattle.interp_state.specs.Machines.{machine_of}
use Rattle.interp_state.specs.declared.machine.Turn.TheVariants as turn
use Rattle.interp_values.proofs.Looked.{one_is}
use Rattle.interp_values.proofs.Stepped.{sets_to}
use Rattle.plan_mean.specs.Operands.{with_one}
use Rattle.plan_mean.specs.Step.{acts}
use Rattle.ssa_mean.specs.Comes.{to}
use Rattle.interp_values.proofs.places.keep.Goals as goal

pub returns-in-Ok : goal.returns-in-Ok
unfolding acts
returns-in-Ok c =
    sets_to turn.Goes c.args.to (value_of c.in-Ok.value) c.args.machine.now c.set.new.self
    (with_one (machine_of c.args.machine.now) c.args.operand.now to) refl c.set.ensures
    (one_is c.args.machine.now c.args.operand.now (value_of c.in-Ok.value) to c.in-Ok.ensures)
