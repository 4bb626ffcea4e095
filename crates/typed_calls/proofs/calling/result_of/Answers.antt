use Rattle.std.proofs.Common.{◌≡◌, length, arith}
use Rattle.typed_calls.proofs.Called.{result_alone, several_results}
use Rattle.typed_calls.proofs.calling.result_of.Goals as goal

pub returns-then-results-eq1 : goal.returns-then-results-eq1
returns-then-results-eq1 c =
    let one : length c.args.results.now ≡ 1 = omega (arith, c.if-results-eq1.true) in
    result_alone c.args.ground.now c.args.results.now one

pub returns : goal.returns
returns c =
    let other = λ (e : length c.args.results.now ≡ 1). c.if-results-eq1.false (omega (arith, e)) in
    several_results c.args.ground.now c.tuple.new.self c.args.results.now c.tuple.result other c.tuple.ensures.named c.tuple.ensures.held
