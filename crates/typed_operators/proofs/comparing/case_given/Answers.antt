use Rattle.typed_operators.proofs.Compared.{case_comes, no_case}
use Rattle.typed_operators.proofs.comparing.case_given.Goals as goal

pub returns-in-Some : goal.returns-in-Some
returns-in-Some c =
    case_comes c.args.ground.now c.case_matched.new.ground c.args.tag c.args.x c.matched_for.result c.in-Some.how c.case_matched.result c.matched_for.ensures c.in-Some.is c.case_matched.ensures

pub returns-in-None : goal.returns-in-None
returns-in-None c =
    no_case c.args.ground.now c.report.new.self c.args.tag c.args.x c.matched_for.result c.matched_for.ensures c.in-None.is c.report.ensures
