use Rattle.interp_calls.proofs.Calls.{err_ok}
use Rattle.std.proofs.Common.{refl}
use Rattle.interp_calls.proofs.Frames.{one_more_later, put_off_is}
use Rattle.interp_calls.proofs.calling.put_off.Goals as goal

pub returns-in_err-push-in-Some-clause-others : goal.returns-in_err-push-in-Some-clause-others
returns-in_err-push-in-Some-clause-others c = refl

pub returns-in_ok-push-in-Some-clause-put : goal.returns-in_ok-push-in-Some-clause-put
returns-in_ok-push-in-Some-clause-put c =
    put_off_is c.args.machine.now _ c.in-Some.top c.args.later (record (c.in-Some.top) { defers = c.push.new.self })
    c.in-Some.is refl (one_more_later c.in-Some.top c.push.new.self.items c.args.later
    c.in_ok-push-in-Some.ensures.items)

pub returns-in_ok-push-in-Some-clause-others : goal.returns-in_ok-push-in-Some-clause-others
returns-in_ok-push-in-Some-clause-others c = refl

pub returns-in-None-clause-others : goal.returns-in-None-clause-others
returns-in-None-clause-others c = refl

pub returns-in_err-push-in-Some-clause-put : goal.returns-in_err-push-in-Some-clause-put
returns-in_err-push-in-Some-clause-put c = err_ok c.from_residual.result _ c.from_residual.ensures.0
