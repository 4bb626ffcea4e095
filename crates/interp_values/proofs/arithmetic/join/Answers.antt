use Rattle.interp_state.proofs.Turns.{given}
use Rattle.interp_state.specs.Machines.{machine_of}
use Rattle.plan_mean.specs.Step.{acts, join}
use Rattle.interp_values.proofs.arithmetic.join.Goals as goal

pub returns : goal.returns
unfolding acts
returns c =
    given c.args.to c.joined-joined.result (join (machine_of c.args.machine.now) c.args.left.now c.args.right.now)
    c.give.result c.args.machine.now c.give.new.self c.give.ensures c.joined-joined.ensures
