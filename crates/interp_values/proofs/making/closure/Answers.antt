use Rattle.interp_state.proofs.Turns.{given}
use Rattle.interp_state.specs.Machines.{machine_of}
use Rattle.plan_mean.specs.Step.{make_closure}
use Rattle.interp_values.proofs.making.closure.Goals as goal

pub returns : goal.returns
returns c =
    let m = c.args.machine.now in
    given c.args.to c.made_closure-made.result (make_closure (machine_of m) c.args.function c.args.captured.now)
    c.give.result m
    c.give.new.self c.give.ensures c.made_closure-made.ensures
