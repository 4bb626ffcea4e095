use Rattle.typed_operators.proofs.Compared.{defaulted_both}
use Rattle.typed_operators.proofs.comparing.defaulted_pair.Goals as goal

pub returns : goal.returns
returns c =
    defaulted_both c.args.ground.now c.defaulted-left.new.ground c.defaulted-right.new.ground c.args.pair c.defaulted-left.result c.defaulted-right.result c.pair_of.result c.defaulted-left.ensures c.defaulted-right.ensures c.pair_of.ensures
