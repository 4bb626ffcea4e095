-- Imports on a cycle.
use Rattle.std.specs.Prelude.{ℕ, List, take, All, Contains, Option, Some, None, IsSomeAnd, slice_get}
use Rattle.import_graph.specs.declared.edges.Edge.{Edge}

-- edges lead from a node to another: it is the same, or an edge leads on
pub data Reaches (edges : List Edge) : ℕ → ℕ → Type 0 where
  Here : (node : ℕ) → Reaches edges node node
  Along : (edge : Edge) (end : ℕ) → Contains edges edge → Reaches edges edge.to end → Reaches edges edge.from end

-- the end of the edge reaches its start
abbrev pub IsOnCycle : List Edge → Edge → Type 0
IsOnCycle edges edge = Reaches edges edge.to edge.from

-- the edge at the index is on a cycle and none before it is; or none is at all
abbrev pub IsFirstOnCycle : List Edge → Option ℕ → Type 0
IsFirstOnCycle edges (Some index) =
    IsSomeAnd (slice_get edges index) (IsOnCycle edges) × All (λ edge. ¬ IsOnCycle edges edge) (take index edges)
IsFirstOnCycle edges None = All (λ edge. ¬ IsOnCycle edges edge) edges
