use Rattle.cg_vta.proofs.asks.Asks.target.Goals as goal

pub returns-clause-at : goal.returns-clause-at
returns-clause-at c = (c.in_ok-number.number, c.in_ok-number.ensures.at, c.in_ok-target.ensures)
