use Rattle.cg_closed.proofs.Instances.{cha_closed}
use Rattle.cg_closed.proofs.laws.cha_is_closed.Goals as goal

pub returns : goal.returns
returns c = λ p types bares. cha_closed p types bares
