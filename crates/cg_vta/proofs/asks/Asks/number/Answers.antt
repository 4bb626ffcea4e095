use Rattle.cg_numbers.proofs.Lists.{grown_by}
use Rattle.cg_vta.proofs.asks.Asks.number.Goals as goal

pub returns-clause-grows : goal.returns-clause-grows
returns-clause-grows c = grown_by _ _ _ _ c.in_ok-number.ensures.keys
