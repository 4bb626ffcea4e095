use Rattle.typed_operators.proofs.Compared.{comparable_matched, not_comparable}
use Rattle.typed_operators.proofs.comparing.comparable_pair.Goals as goal

pub returns-in-Some : goal.returns-in-Some
returns-in-Some c =
    comparable_matched c.args.ground.now c.pair_matched.new.ground c.args.op c.args.x c.args.y c.matched_for.result c.in-Some.how c.pair_matched.result c.matched_for.ensures c.in-Some.is c.pair_matched.ensures

pub returns-in-None : goal.returns-in-None
returns-in-None c =
    not_comparable c.args.ground.now c.report.new.self c.args.op c.args.x c.args.y c.matched_for.result c.matched_for.ensures c.in-None.is c.report.ensures
