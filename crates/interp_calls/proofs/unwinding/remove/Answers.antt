use Rattle.interp_calls.proofs.Unwound.{thrown_below}
use Rattle.interp_calls.proofs.unwinding.remove.Goals as goal

pub returns-in-Ok : goal.returns-in-Ok
returns-in-Ok c =
    thrown_below c.throw.result c.args.machine.now c.pop_with_wrappers.new.machine c.throw.new.self c.args.thrown
    c.in-Ok.ensures.gone c.pop_with_wrappers.ensures.others c.throw.ensures
