use Rattle.std.proofs.Common.{rules}
use Rattle.typed_operators.specs.Comparing.{IsAsked}
use Rattle.typed_operators.proofs.Compared.{asked_is, asked_not}
use Rattle.typed_operators.proofs.comparing.asked_pair.Goals as goal

pub returns-then-with_nil : goal.returns-then-with_nil
returns-then-with_nil c =
    asked_is c.args.ground.now c.args.op c.args.at c.args.with_nil c.args.pair (IsAsked.of_nil c.if-with_nil.true)

pub returns-then-take_comparison : goal.returns-then-take_comparison
returns-then-take_comparison c =
    asked_is c.args.ground.now c.args.op c.args.at c.args.with_nil c.args.pair (IsAsked.taken (search rules) (search rules))

pub returns : goal.returns
returns c =
    asked_not c.args.ground.now c.report.new.self c.args.op c.args.at c.args.with_nil c.args.pair (IsAsked.refused c.if-with_nil.false (search rules)) c.report.ensures
