use Rattle.std.proofs.Common.{[]}
use Rattle.init_order.proofs.OneOrder.{one_after}
use Rattle.init_order.proofs.laws.one_order.Goals as goal

pub returns : goal.returns
returns c = λ names a b. one_after names [] a b
