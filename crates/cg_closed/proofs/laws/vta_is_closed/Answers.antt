use Rattle.cg_closed.proofs.Instances.{vta_closed}
use Rattle.cg_closed.proofs.laws.vta_is_closed.Goals as goal

pub returns : goal.returns
returns c = λ p types bares. vta_closed p types bares
