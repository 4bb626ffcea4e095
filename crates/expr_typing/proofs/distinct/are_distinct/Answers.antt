use Rattle.std.proofs.Common.{get_or, refl}
use Rattle.expr_typing.proofs.GivenOnce.{given_twice, given_once}
use Rattle.expr_typing.proofs.distinct.are_distinct.Goals as goal

pub returns-then-not-is_new : goal.returns-then-not-is_new
returns-then-not-is_new c =
    given_twice c.args.numbers.now c.loop-number.given.keys c.loop-number.number-index (get_or c.args.numbers.now c.loop-number.number-index 0) 0 c.in_ok-is_new.is_new
    c.loop-number-test.true refl c.loop-number.invariant.keys c.loop-number.invariant.distinct c.in_ok-is_new.ensures.added c.if-not-is_new.true

pub loop-number-preserved : goal.loop-number-preserved
loop-number-preserved c =
    let more =
    given_once c.args.numbers.now c.loop-number.given.keys c.loop-number.number-index (get_or c.args.numbers.now c.loop-number.number-index 0) 0 c.in_ok-is_new.is_new
    c.loop-number-test.true refl c.loop-number.invariant.keys c.loop-number.invariant.distinct c.in_ok-is_new.ensures.added c.insert.new.self.keys c.if-not-is_new.false c.in_ok-is_new.ensures.keys in
    record { keys = more.0; distinct = more.1 }
