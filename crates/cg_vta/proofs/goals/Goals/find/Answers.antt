use Rattle.cg_vta.proofs.Standings.{find_none, find_some}
use Rattle.cg_vta.proofs.goals.Goals.find.Goals as goal

pub returns-in-Some : goal.returns-in-Some
returns-in-Some c = λ kept. find_some c.args.self.now c.args.group c.args.value c.in-Some.place c.row.result.now c.in-Some.ensures.some c.row.ensures kept

pub returns-in-None : goal.returns-in-None
returns-in-None c = λ kept. find_none c.args.self.now c.args.group c.args.value (c.place_of.ensures.none c.in-None.is)
