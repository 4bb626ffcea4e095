-- Graphs over nodes: how they are made, and in what order their nodes are.
use Rattle.std.specs.Prelude.{ℕ, Bool, List, [], ◌∷◌, ◌++◌, length, slice_set}
use Rattle.go_graph.specs.Graph.{AreComponents, IsGraph, StandsOn, next}
use Rattle.go_graph.specs.Marks.{AreMarks}

-- the graph with one edge more; one from no node of it is none
abbrev pub with_edge : ℕ → ℕ → List (List ℕ) → List (List ℕ)
with_edge from to rows = slice_set rows from (next rows from ++ to ∷ [])

-- the graph with edges from one node more
abbrev pub with_edges : ℕ → List ℕ → List (List ℕ) → List (List ℕ)
with_edges from targets rows = slice_set rows from (next rows from ++ targets)

-- The nodes of a graph in an order in which each comes after what it leads to, except for what leads back to it: for
-- each node the number of its component, the nodes of one component together, and marks at the nodes that lead to
-- themselves.
pub record IsOrder (rows : List (List ℕ)) (of nodes : List ℕ) (marks : List Bool) : Type 0 where
  pub graph : IsGraph rows
  pub components : AreComponents rows of nodes
  pub cyclic : AreMarks (length rows) (λ x. StandsOn (next rows) x x) marks
