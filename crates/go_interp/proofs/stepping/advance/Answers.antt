use Rattle.std.proofs.Common.{arith, refl}
use Rattle.go_interp.proofs.Moving.{acted, stands_at}
use Rattle.go_interp.proofs.stepping.advance.Goals as goal

pub returns-in-Some-get : goal.returns-in-Some-get
returns-in-Some-get c =
    acted c.act.result c.args.machine.now _ c.act.new.machine c.in-Some.top c.saturating_add-top.result
    c.in-Some-get.step.now c.in-Some.is
    (stands_at c.in-Some.top.steps.now c.in-Some.top.step c.get.result c.in-Some-get.step c.get.ensures.lookup
    c.in-Some-get.is)
    (omega (arith, c.if-top-steps.false, c.saturating_add-top.ensures)) refl c.act.ensures
