use Rattle.cg_vta.proofs.Keyed.{group_found, group_none}
use Rattle.cg_vta.proofs.ways.group_number.Goals as goal

pub returns-clause-some : goal.returns-clause-some
returns-clause-some c = group_found c.args.numbers.now.groups.keys c.args.group c.get_index_of.result c.get_index_of.ensures.index

pub returns-clause-none : goal.returns-clause-none
returns-clause-none c = λ e. group_none c.args.numbers.now.groups.keys c.args.group c.get_index_of.result c.get_index_of.ensures.found e
