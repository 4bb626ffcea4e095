use Rattle.std.proofs.Common.{◌∙◌, sym}
use Rattle.typed_operators.proofs.Operating.{indirect_made, no_indirect}
use Rattle.typed_operators.proofs.unary.indirect.Goals as goal

pub returns-in-Some : goal.returns-in-Some
returns-in-Some c =
    indirect_made c.args.ground.now c.args.at c.args.x c.in-Some.base c.indirection_of.result c.sound.result (sym c.pointed.ensures ∙ c.in-Some.is)
    c.indirection_of.ensures c.sound.ensures

pub returns-in-None : goal.returns-in-None
returns-in-None c =
    no_indirect c.args.ground.now c.report.new.self c.args.at c.args.x (sym c.pointed.ensures ∙ c.in-None.is) c.report.ensures
