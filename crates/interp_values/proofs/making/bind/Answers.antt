use Rattle.interp_state.proofs.Turns.{given}
use Rattle.interp_state.specs.Machines.{machine_of}
use Rattle.plan_mean.specs.Operands.{with_one}
use Rattle.plan_mean.specs.Step as steps
use Rattle.plan_mean.specs.Step.{acts}
use Rattle.interp_values.proofs.making.bind.Goals as goal

pub returns : goal.returns
unfolding acts
returns c =
    let m = c.args.machine.now in
    given c.args.to c.bound_method-made.result
    (with_one (machine_of m) c.args.receiver.now (steps.bind c.args.target c.args.is_interface)) c.give.result m
    c.give.new.self c.give.ensures c.bound_method-made.ensures
