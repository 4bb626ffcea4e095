-- Edges by their starts, and those of one node.
use Rattle.std.specs.Prelude.{◌≡◌, ℕ, List, All, Contains}
use Rattle.std.specs.List.Sorted.{IsNonDecreasingBy}
use Rattle.import_graph.specs.declared.edges.Edge.{Edge}

-- no edge starts below the one before it
abbrev pub AscendByStart : List Edge → Type 0
AscendByStart edges = IsNonDecreasingBy (λ edge. edge.from) edges

-- some edges are those that start at a node: no others, and all
pub record AreAllFrom (edges : List Edge) (node : ℕ) (some : List Edge) : Type 0 where
  pub only : All (λ edge. (edge.from ≡ node) × Contains edges edge) some
  pub all : (edge : Edge) → edge.from ≡ node → Contains edges edge → Contains some edge
