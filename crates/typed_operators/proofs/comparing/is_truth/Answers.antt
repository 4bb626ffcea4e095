use Rattle.std.proofs.Common.{◌∙◌, sym}
use Rattle.typed_operators.proofs.Compared.{is_truth_made}
use Rattle.typed_operators.proofs.comparing.is_truth.Goals as goal

pub returns : goal.returns
returns c =
    is_truth_made c.args.ground.now.types c.args.at c.args.to c.basic-of.result c.args.value c.node-truth.result c.node.result c.in_ok-truth.truth c.in_ok-truth.value c.made.result c.in_ok-left.left c.in_ok-left.right
    c.basic-of.ensures c.node-truth.ensures c.made.ensures (sym c.beside.ensures ∙ c.in_ok-truth.was) c.in_ok-left.ensures.first c.in_ok-left.ensures.second c.node.ensures
