use Rattle.cg_vta.proofs.asks.put_goal.Goals as goal

pub returns-clause-rules : goal.returns-clause-rules
returns-clause-rules c = (c.in_ok-target.target, c.in_ok-target.ensures.at, c.in_ok-put_answer.ensures)
