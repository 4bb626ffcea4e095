use Rattle.std.proofs.Common.{◌∙◌, sym}
use Rattle.typed_operators.proofs.Paired.{combined_constants, combined_nodes}
use Rattle.typed_operators.proofs.binary.combined.Goals as goal

pub returns-in-Some : goal.returns-in-Some
returns-in-Some c =
    combined_constants c.args.ground.now c.fold-value.new.ground c.args.op c.args.places c.args.pair c.in-Some.a.now c.in-Some.b.now c.fold-value.result (sym c.in-Some.ensures) c.fold-value.ensures

pub returns : goal.returns
returns c =
    combined_nodes c.args.ground.now c.args.op c.args.places c.args.pair c.binary_op.result c.binary_of.result (sym c.in_default.ensures) c.binary_op.ensures c.binary_of.ensures
