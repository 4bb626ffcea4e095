use Rattle.std.proofs.Common.{◌∙◌, sym}
use Rattle.typed_operators.proofs.Compared.{compared_constants, compared_others}
use Rattle.typed_operators.proofs.comparing.compared.Goals as goal

pub returns-in-Some : goal.returns-in-Some
returns-in-Some c =
    compared_constants c.args.ground.now c.args.op c.args.at c.args.pair c.in-Some.a.now c.in-Some.b.now c.fold_compare.result c.type_id.result c.node.result (sym c.in-Some.ensures) c.fold_compare.ensures c.type_id.ensures c.node.ensures

pub returns : goal.returns
returns c =
    compared_others c.args.ground.now c.compared_nodes.new.ground c.args.op c.args.at c.args.pair c.compared_nodes.result (sym c.in_default.ensures) c.compared_nodes.ensures
