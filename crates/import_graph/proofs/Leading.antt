-- Where edges lead: never to a lower rank, and the same way in any order of the edges.
use Rattle.std.proofs.Common.{◌≡◌, ◌≤◌, ◌<◌, ◌↔◌, ℕ, List, length, Contains, Bool, IsTrue, IsSomeAnd, slice_get, IsPermutation, sym, subst, arith}
use Rattle.std.proofs.Math.ListN.{get_or}
use Rattle.std.proofs.lemmas.List.Elements.{All-contains}
use Rattle.std.proofs.lemmas.Option.{slice_get-get_or}
use Rattle.std.proofs.lemmas.List.Sorted.{Contains-permutation, IsPermutation-sym}
use Rattle.import_graph.specs.declared.edges.Edge.{Edge}
use Rattle.import_graph.specs.Cycles.{Reaches, Here, Along, IsOnCycle}
use Rattle.import_graph.specs.Ranks.{Ranks, rank_in, AreOrdered}

-- the end of a way has no lower rank than its start
pub never_lower : (ranks : Ranks) (edges : List Edge) → AreOrdered ranks edges → (a b : ℕ) → Reaches edges a b → rank_in ranks a ≤ rank_in ranks b
never_lower ranks edges ordered a b (Here node) = omega arith
never_lower ranks edges ordered a b (Along edge end along rest) =
    omega (arith, All-contains (λ edge. rank_in ranks edge.from ≤ rank_in ranks edge.to) edges edge ordered along, never_lower ranks edges ordered edge.to end rest)

reaches_by_more : (some edges : List Edge) → ((edge : Edge) → Contains some edge → Contains edges edge) → (a b : ℕ) → Reaches some a b → Reaches edges a b
reaches_by_more some edges more a b (Here node) = Here node
reaches_by_more some edges more a b (Along edge end along rest) = Along edge end (more edge along) (reaches_by_more some edges more edge.to end rest)

pub reaches_in_any_order : (edges sorted : List Edge) → IsPermutation edges sorted → (a b : ℕ) → Reaches sorted a b ↔ Reaches edges a b
reaches_in_any_order edges sorted same a b = (
  reaches_by_more sorted edges (λ edge. Contains-permutation sorted edges edge (IsPermutation-sym edges sorted same)) a b,
  reaches_by_more edges sorted (λ edge. Contains-permutation edges sorted edge same) a b,
)

-- a test among edges in another order
pub tests_cycle : (edges sorted slice : List Edge) (edge : Edge) (is : Bool) → IsPermutation edges sorted → slice ≡ sorted → IsTrue is ↔ IsOnCycle slice edge → IsTrue is ↔ IsOnCycle edges edge
tests_cycle edges sorted slice edge is same are test =
    let any = reaches_in_any_order edges slice (subst (IsPermutation edges) (sym are) same) edge.to edge.from in
    (λ holds. any.0 (test.0 holds), λ way. test.1 (any.1 way))

pub at_index : (edges : List Edge) (index : ℕ) (d : Edge) → index < length edges → IsOnCycle edges (get_or edges index d) → IsSomeAnd (slice_get edges index) (IsOnCycle edges)
at_index edges index d below way = rw (slice_get-get_or edges index d below) way
