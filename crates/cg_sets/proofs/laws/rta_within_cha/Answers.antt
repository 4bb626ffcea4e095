use Rattle.cg_sets.specs.Graphs.{Rta, Known, Reached}
use Rattle.cg_sets.proofs.Nested.{edge_anywhere}
use Rattle.cg_sets.proofs.laws.rta_within_cha.Goals as goal

pub returns : goal.returns
returns c = λ p types bares e edge. edge_anywhere p types bares (λ n v. Rta p types bares (Known v)) (λ f. Rta p types bares (Reached f)) e edge
