use Rattle.std.proofs.Common.{◌∙◌, sym}
use Rattle.typed_operators.proofs.Operating.{no_receipt, receipt_made}
use Rattle.typed_operators.proofs.unary.received_from.Goals as goal

pub returns-in-Some : goal.returns-in-Some
returns-in-Some c =
    receipt_made c.args.ground.now c.args.at c.args.x c.in-Some.elem c.receipt.result c.sound.result (sym c.received.ensures ∙ c.in-Some.is)
    c.receipt.ensures c.sound.ensures

pub returns-in-None : goal.returns-in-None
returns-in-None c =
    no_receipt c.args.ground.now c.report.new.self c.args.at c.args.x (sym c.received.ensures ∙ c.in-None.is) c.report.ensures
