use Rattle.std.proofs.Common.{◌∙◌, sym}
use Rattle.typed_primaries.proofs.Slices.{slice_comes}
use Rattle.typed_primaries.proofs.slicing.sliced.Goals as goal

pub returns : goal.returns
returns c =
    slice_comes c.args.ground.now c.slice_type.new.ground c.slice_operand.new.ground c.args.x.at c.args.x.expr c.in_ok-typed.expr
    c.in_ok-operand.operand c.args.shape c.args.bounds c.in_ok-typed.bounds c.in_ok-operand.bounds c.in_ok-typed.typed c.slice_type.result
    c.slice_operand.result c.slice_node.result c.slice_type.ensures (sym c.beside.ensures ∙ c.in_ok-typed.was) c.slice_operand.ensures
    (sym c.beside-2.ensures ∙ c.in_ok-operand.was) c.slice_node.ensures
