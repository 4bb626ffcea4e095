use Rattle.go_type.specs.Same.{same_id}
use Rattle.cg_sets.proofs.Keys.{found_some, id_same, none_any}
use Rattle.cg_sets.proofs.implementing.Implementing.place_of.Goals as goal

pub returns-clause-some : goal.returns-clause-some
returns-clause-some c = found_some same_id id_same c.args.self.now.interfaces.keys c.args.interface c.get_index_of.result c.get_index_of.ensures.index

pub returns-clause-none : goal.returns-clause-none
returns-clause-none c = λ e. none_any c.get_index_of.result _ c.get_index_of.ensures.found e
