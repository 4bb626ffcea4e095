-- The edges of a node are those between two points of the edges by their starts.
use Rattle.std.proofs.Common.{◌≡◌, ℕ, ◌+◌, ◌<◌, ◌≤◌, Bool, true, false, List, length, take, drop, All, Contains, ◌⊎◌, inl, inr, sym, subst, ltb, leb, ltb-true, ltb-false, leb-true, leb-false, arith}
use Rattle.std.specs.List.Sorted.{IsPartitionPoint}
use Rattle.std.proofs.lemmas.List.{get_or-take, get_or-drop, take-append-drop, length-take-le, length-drop}
use Rattle.std.proofs.lemmas.List.Elements.{All-contains, All-contains_itself, All-drop, All-take, Contains-append_cases}
use Rattle.import_graph.specs.declared.edges.Edge.{Edge}
use Rattle.import_graph.specs.Edges.{AreAllFrom}

before_point : {X : Type 0} (p : X → Bool) (xs : List X) (i : ℕ) → i ≤ length xs → IsPartitionPoint (λ y. p y ≡ true) (λ y. p y ≡ false) xs i → All (λ y. p y ≡ true) (take i xs)
before_point p xs i within point k d below =
    let early : k < i = omega (arith, length-take-le i xs within) in
    rw (get_or-take i xs k d early) (point.0 k d (omega arith) early)

from_point : {X : Type 0} (p : X → Bool) (xs : List X) (i : ℕ) → IsPartitionPoint (λ y. p y ≡ true) (λ y. p y ≡ false) xs i → All (λ y. p y ≡ false) (drop i xs)
from_point p xs i point k d below =
    let late : i + k < length xs = omega (arith, length-drop i xs) in
    rw (get_or-drop i xs k d) (point.1 (i + k) d (omega arith) late)

-- an edge is before a point or after it
split : (edges : List Edge) (i : ℕ) (edge : Edge) → Contains edges edge → Contains (take i edges) edge ⊎ Contains (drop i edges) edge
split edges i edge h = Contains-append_cases (take i edges) (drop i edges) edge (subst (λ (l : List Edge). Contains l edge) (sym (take-append-drop i edges)) h)

module _ (edges : List Edge) (node first count : ℕ) (rest : List Edge) (is_rest : rest ≡ drop first edges) (begins : first ≤ length edges) (ends : count ≤ length rest)
    (starts : IsPartitionPoint (λ edge. ltb edge.from node ≡ true) (λ edge. ltb edge.from node ≡ false) edges first)
    (stops : IsPartitionPoint (λ edge. leb edge.from node ≡ true) (λ edge. leb edge.from node ≡ false) rest count) where
  not_below : All (λ edge. ltb edge.from node ≡ false) rest
  not_below = rw is_rest (from_point (λ edge. ltb edge.from node) edges first starts)

  among : All (Contains edges) rest
  among = rw is_rest (All-drop (Contains edges) first edges (All-contains_itself edges))

  not_above : All (λ edge. leb edge.from node ≡ true) (take count rest)
  not_above = before_point (λ edge. leb edge.from node) rest count ends stops

  within : (edge : Edge) → edge.from ≡ node → Contains (take count rest) edge ⊎ Contains (drop count rest) edge → Contains (take count rest) edge
  within edge is (inl here) = here
  within edge is (inr past) =
      let above = leb-false _ _ (All-contains (λ edge. leb edge.from node ≡ false) _ edge (from_point (λ edge. leb edge.from node) rest count stops) past) in
      absurd (omega (arith, is, above))

  late : (edge : Edge) → edge.from ≡ node → Contains (take first edges) edge ⊎ Contains (drop first edges) edge → Contains (take count rest) edge
  late edge is (inl early) =
      let below = ltb-true _ _ (All-contains (λ edge. ltb edge.from node ≡ true) _ edge (before_point (λ edge. ltb edge.from node) edges first begins starts) early) in
      absurd (omega (arith, is, below))
  late edge is (inr there) = within edge is (split rest count edge (rw is_rest there))

  pub all_of_node : AreAllFrom edges node (take count rest)
  all_of_node = record {
    only = λ k d below.
        let least = ltb-false _ _ (All-take (λ edge. ltb edge.from node ≡ false) count rest not_below k d below) in
        let most = leb-true _ _ (not_above k d below) in
        (omega (arith, least, most), All-take (Contains edges) count rest among k d below);
    all = λ edge is there. late edge is (split edges first edge there);
  }
