use Rattle.typed_operators.proofs.Compared.{are_compared}
use Rattle.typed_operators.proofs.comparing.compared_values.Goals as goal

pub returns : goal.returns
returns c =
    are_compared c.args.ground.now.types c.args.op c.args.at c.args.pair c.in_ok-pair.pair c.type_id.result c.in_ok-left.left c.in_ok-left.right c.node.result c.in_ok-pair.ensures c.in_ok-left.ensures.first c.in_ok-left.ensures.second c.type_id.ensures c.node.ensures
