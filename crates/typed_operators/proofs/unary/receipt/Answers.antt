use Rattle.typed_operators.specs.Unary.{receipt}
use Rattle.typed_operators.proofs.Operating.{on_one}
use Rattle.typed_operators.proofs.unary.receipt.Goals as goal

pub returns : goal.returns
returns c =
    on_one c.args.at c.args.elem receipt c.args.x c.in_ok-channel.channel c.node.result c.in_ok-channel.ensures c.node.ensures
