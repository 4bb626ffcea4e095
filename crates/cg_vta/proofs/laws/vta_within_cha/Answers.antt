use Rattle.cg_sets.specs.Graphs.{Always}
use Rattle.cg_sets.proofs.Nested.{edge_anywhere}
use Rattle.cg_vta.specs.Flows.{Vta}
use Rattle.cg_vta.proofs.laws.vta_within_cha.Goals as goal

pub returns : goal.returns
returns c = λ p types bares e edge. edge_anywhere p types bares (Vta p types bares) (Always p types bares) e edge
