-- Ranks of nodes.
use Rattle.std.specs.Prelude.{ℕ, ◌≤◌, List, All, nat_eq, unwrap_or}
use Rattle.std.specs.HashMap.{HashMap, get}
use Rattle.std.specs.declared.hash.BuildHasherDefault.{BuildHasherDefault}
use Rattle.std.specs.declared.hash.FoldHasher.{FoldHasher}
use Rattle.import_graph.specs.declared.edges.Edge.{Edge}

-- the ranks of nodes
abbrev pub Ranks : Type 0
Ranks = HashMap ℕ ℕ (BuildHasherDefault FoldHasher)

-- the rank of a node, which is 0 where it has none
abbrev pub rank_in : Ranks → ℕ → ℕ
rank_in ranks node = unwrap_or (get nat_eq ranks node) 0

-- no edge leads to a lower rank
abbrev pub AreOrdered : Ranks → List Edge → Type 0
AreOrdered ranks edges = All (λ edge. rank_in ranks edge.from ≤ rank_in ranks edge.to) edges
