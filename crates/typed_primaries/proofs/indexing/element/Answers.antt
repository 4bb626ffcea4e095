use Rattle.std.proofs.Common.{◌∙◌, sym}
use Rattle.typed_primaries.proofs.Indexes.{element_made}
use Rattle.typed_primaries.proofs.indexing.element.Goals as goal

pub returns : goal.returns
returns c =
    element_made c.args.ground.now.types c.args.x.at c.args.x.expr c.args.shape c.args.index c.numbered.result c.in_ok-numbered.numbered.0
    c.in_ok-numbered.numbered.1 c.in_ok-numbered.operand c.in_ok-operand.operand c.in_ok-numbered.index c.in_ok-operand.index c.dereferenced.result
    c.in_ok-operand-2.operand c.in_ok-operand-2.index c.node.result c.numbered.ensures (sym c.beside.ensures ∙ c.in_ok-numbered.was)
    c.dereferenced.ensures (sym c.beside-2.ensures ∙ c.in_ok-operand.was) c.in_ok-operand-2.ensures.first c.in_ok-operand-2.ensures.second c.node.ensures
