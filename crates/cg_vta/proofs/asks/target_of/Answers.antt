use Rattle.std.proofs.Common.{Option, subst}
use Rattle.std.specs.Prelude.{IfOk, OnOk}
use Rattle.cg_vta.specs.Asks.{GrowsAs, TargetAt}
use Rattle.cg_vta.specs.declared.asks.Ask.{Ask}
use Rattle.cg_vta.proofs.asks.target_of.Goals as goal

pub returns-clause-at : goal.returns-clause-at
returns-clause-at c = subst (λ (o : Option Ask). IfOk c.with_next.result (TargetAt c.with_next.new.asks.list.keys c.args.goal o)) c.next_ask-next.ensures c.with_next.ensures.at

pub returns-clause-grows : goal.returns-clause-grows
returns-clause-grows c = subst (λ (o : Option Ask). OnOk c.with_next.result (GrowsAs c.args.asks.now.list.keys c.with_next.new.asks.list.keys o)) c.next_ask-next.ensures c.with_next.ensures.grows
