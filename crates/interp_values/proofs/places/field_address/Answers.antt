use Rattle.interp_state.proofs.Turns.{given}
use Rattle.interp_state.specs.Machines.{machine_of}
use Rattle.plan_mean.specs.Operands.{with_one}
use Rattle.plan_mean.specs.Step.{acts}
use Rattle.ssa_mean.specs.Places.{field_address}
use Rattle.interp_values.proofs.places.field_address.Goals as goal

pub returns : goal.returns
unfolding acts
returns c =
    given c.args.to c.part_of-part.result
    (with_one (machine_of c.args.machine.now) c.args.operand.now (λ it. field_address it c.args.field))
    c.give.result c.args.machine.now c.give.new.self c.give.ensures c.part_of-part.ensures
