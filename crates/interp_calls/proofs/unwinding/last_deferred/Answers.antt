use Rattle.std.proofs.Common.{refl}
use Rattle.interp_calls.proofs.Unwound.{deferred_none, deferred_some, none_deferred}
use Rattle.interp_calls.proofs.unwinding.last_deferred.Goals as goal

pub returns-in-Some-clause-some : goal.returns-in-Some-clause-some
returns-in-Some-clause-some c =
    deferred_some c.pop.result c.args.machine.now _ c.in-Some.top c.pop.new.self c.in-Some.is c.pop.ensures.items refl

pub returns-in-Some-clause-none : goal.returns-in-Some-clause-none
returns-in-Some-clause-none c =
    deferred_none c.pop.result c.args.machine.now _ c.in-Some.top c.pop.new.self _ _ _ c.in-Some.is
    c.pop.ensures.items c.pop.ensures.cases c.pop.ensures.rest refl

pub returns-in-None-clause-none : goal.returns-in-None-clause-none
returns-in-None-clause-none c = λ w. none_deferred c.args.machine.now w c.in-None.is
