use Rattle.std.proofs.Common.{refl}
use Rattle.interp_calls.proofs.Frames.{goes_back_with}
use Rattle.interp_calls.proofs.calling.leave.Goals as goal

pub returns-in-Some : goal.returns-in-Some
returns-in-Some c =
    goes_back_with c.pop.result c.in-Some.left c.args.value c.args.machine.now
    (record (c.args.machine.now) { current = c.pop.new.self }) c.give_result.new.machine c.pop.new.self c.in-Some.is
    c.pop.ensures.left c.pop.ensures.popped refl c.give_result.ensures.given c.give_result.ensures.others
