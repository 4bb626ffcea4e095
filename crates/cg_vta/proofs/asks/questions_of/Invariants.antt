use Rattle.std.proofs.Common.{take}
use Rattle.cg_vta.proofs.Gathering.{Questions}
use Rattle.cg_vta.proofs.asks.questions_of.Given as goal

abbrev pub invariant-loop-site : goal.invariant-loop-site
invariant-loop-site l = Questions l.fn.asks.list.keys l.asks.list.keys (take l.site-index l.sites) l.questions.items
