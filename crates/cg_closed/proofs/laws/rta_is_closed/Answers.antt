use Rattle.cg_closed.proofs.Instances.{rta_closed}
use Rattle.cg_closed.proofs.laws.rta_is_closed.Goals as goal

pub returns : goal.returns
returns c = λ p types bares. rta_closed p types bares
