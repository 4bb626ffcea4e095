use Rattle.tree_laws.proofs.Whole.{one_tree, same_view}
use Rattle.tree_laws.proofs.one_tree_of_view.Goals as goal

pub returns-clause-same : goal.returns-clause-same
returns-clause-same c = λ a b same h k. one_tree a b same h k

pub returns-clause-seen : goal.returns-clause-seen
returns-clause-seen c = λ a h. same_view a h
