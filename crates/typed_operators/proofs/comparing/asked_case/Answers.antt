use Rattle.std.proofs.Common.{rules}
use Rattle.typed_operators.specs.Comparing.{IsAskedCase}
use Rattle.typed_operators.proofs.Compared.{case_is, case_not}
use Rattle.typed_operators.proofs.comparing.asked_case.Goals as goal

pub returns-then-is_nil : goal.returns-then-is_nil
returns-then-is_nil c =
    case_is c.args.ground.now c.args.at c.args.is_nil c.args.tag c.args.value (IsAskedCase.of_nil c.if-is_nil.true)

pub returns-then-take_comparison : goal.returns-then-take_comparison
returns-then-take_comparison c =
    case_is c.args.ground.now c.args.at c.args.is_nil c.args.tag c.args.value (IsAskedCase.taken (search rules) (search rules))

pub returns : goal.returns
returns c =
    case_not c.args.ground.now c.report.new.self c.args.at c.args.is_nil c.args.tag c.args.value (IsAskedCase.refused c.if-is_nil.false (search rules)) c.report.ensures
