use Rattle.std.proofs.Common.{sym, ◌∙◌}
use Rattle.typed_calls.specs.Passing.{written}
use Rattle.typed_calls.proofs.Called.{misnumbered, numbered_as}
use Rattle.typed_calls.proofs.calling.passed_arguments.Goals as goal

pub returns-in-Some : goal.returns-in-Some
returns-in-Some c =
    misnumbered c.args.ground.now c.report_number.new.ground c.args.call c.args.signature.now (written c.args.arguments) c.in-Some.breach
    (sym c.number_breach.ensures ∙ c.in-Some.is) c.report_number.ensures

pub returns-in-None : goal.returns-in-None
returns-in-None c =
    numbered_as c.args.ground.now c.planned_arguments.new.ground c.args.call c.args.signature.now (written c.args.arguments) _ c.planned_arguments.result
    (sym c.number_breach.ensures ∙ c.in-None.is) c.planned_arguments.ensures
