use Rattle.typed_operators.proofs.Paired.{junction_and, junction_constant, junction_or}
use Rattle.typed_operators.proofs.binary.joined_truths.Goals as goal

pub returns-in-Some : goal.returns-in-Some
returns-in-Some c =
    junction_constant c.args.ground.now c.args.op c.args.at c.args.pair c.folded_truth.result c.in-Some.truth c.node.result c.folded_truth.ensures c.in-Some.is c.node.ensures

pub returns-in-And : goal.returns-in-And
returns-in-And c =
    junction_and c.args.ground.now c.args.op c.args.at c.args.pair c.folded_truth.result c.and_also.result c.folded_truth.ensures c.in_default.is c.in-And.is c.and_also.ensures

pub returns-in-Or : goal.returns-in-Or
returns-in-Or c =
    junction_or c.args.ground.now c.args.op c.args.at c.args.pair c.folded_truth.result c.or_else.result c.folded_truth.ensures c.in_default.is c.in-Or.is c.or_else.ensures
