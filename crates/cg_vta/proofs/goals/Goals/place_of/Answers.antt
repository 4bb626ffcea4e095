use Rattle.cg_vta.proofs.Keyed.{standing_found, standing_none}
use Rattle.cg_vta.proofs.goals.Goals.place_of.Goals as goal

pub returns-clause-some : goal.returns-clause-some
returns-clause-some c = standing_found c.args.self.now.standings.keys c.args.standing c.get_index_of.result c.get_index_of.ensures.index

pub returns-clause-none : goal.returns-clause-none
returns-clause-none c = λ e. standing_none c.args.self.now.standings.keys c.args.standing c.get_index_of.result c.get_index_of.ensures.found e
