use Rattle.typed_operators.proofs.Paired.{alike_matched, alike_mismatched}
use Rattle.typed_operators.proofs.binary.alike.Goals as goal

pub returns-in-Some : goal.returns-in-Some
returns-in-Some c =
    alike_matched c.args.ground.now c.paired.new.ground c.args.x c.args.y c.matched_alike.result c.in-Some.how c.paired.result c.matched_alike.ensures c.in-Some.is c.paired.ensures

pub returns-in-None : goal.returns-in-None
returns-in-None c =
    alike_mismatched c.args.ground.now c.report.new.self c.args.x c.args.y c.matched_alike.result c.matched_alike.ensures c.in-None.is c.report.ensures
