use Rattle.interp_state.proofs.Turns.{given}
use Rattle.interp_state.specs.Machines.{machine_of}
use Rattle.plan_mean.specs.Operands.{with_two}
use Rattle.plan_mean.specs.Step.{acts}
use Rattle.ssa_mean.specs.Places.{index_of}
use Rattle.interp_values.proofs.places.array_item.Goals as goal

pub returns : goal.returns
unfolding acts
returns c =
    given c.args.to c.array_value-part.result
    (with_two (machine_of c.args.machine.now) c.args.operand.now c.args.index.now index_of)
    c.give.result c.args.machine.now c.give.new.self c.give.ensures c.array_value-part.ensures
