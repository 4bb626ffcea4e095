-- What a walk has met: nodes that the edges lead to from its start. The ends of the edges of the first nodes are among them.
use Rattle.std.proofs.Common.{◌↔◌, get_or, ◌≡◌, ℕ, ◌+◌, ◌<◌, ◌≤◌, Bool, true, false, cond, List, [], ◌∷◌, ◌++◌, length, take, map, All, Contains, nat_eq, refl, sym, ap, subst, ◌∙◌, append_assoc, append-nil, arith}
use Rattle.std.specs.List.{list_any}
use Rattle.std.proofs.lemmas.List.{take_all, take-append-le}
use Rattle.std.proofs.lemmas.List.Elements.{All-contains, All-cons, All-head, All-tail, All-push, All-more, All-weaker, All-map, Contains-append_left, Contains-push}
use Rattle.std.proofs.lemmas.Map.Views.{Contains-from_any, exact_unsigned_eq}
use Rattle.indexmap.specs.IndexSet.{insert_key, insert_all}
use Rattle.import_graph.specs.declared.edges.Edge.{Edge}
use Rattle.import_graph.specs.Cycles.{Reaches, Here, Along}
use Rattle.import_graph.specs.Edges.{AreAllFrom}

-- ---- nodes that are added, each once

insert-kept : (nodes : List ℕ) (node : ℕ) → (more : List ℕ) × (insert_key nat_eq nodes node ≡ nodes ++ more)
insert-kept nodes node = by (list_any (nat_eq node) nodes)
  where
    by : (b : Bool) → (more : List ℕ) × (cond b nodes (nodes ++ node ∷ []) ≡ nodes ++ more)
    by true = ([], sym (append-nil nodes))
    by false = (node ∷ [], refl)

insert-has : (nodes : List ℕ) (node : ℕ) → Contains (insert_key nat_eq nodes node) node
insert-has nodes node = by (list_any (nat_eq node) nodes) refl
  where
    by : (b : Bool) → list_any (nat_eq node) nodes ≡ b → Contains (cond b nodes (nodes ++ node ∷ [])) node
    by true e = Contains-from_any exact_unsigned_eq node nodes e
    by false e = Contains-push nodes node

insert-only : (P : ℕ → Type 0) (nodes : List ℕ) (node : ℕ) → All P nodes → P node → All P (insert_key nat_eq nodes node)
insert-only P nodes node all here = by (list_any (nat_eq node) nodes)
  where
    by : (b : Bool) → All P (cond b nodes (nodes ++ node ∷ []))
    by true = all
    by false = All-push P nodes node all here

all-kept : (nodes some : List ℕ) → (more : List ℕ) × (insert_all nat_eq nodes some ≡ nodes ++ more)
all-kept nodes [] = ([], sym (append-nil nodes))
all-kept nodes (node ∷ some) =
    let first = insert-kept nodes node in
    let rest = all-kept (insert_key nat_eq nodes node) some in
    (first.0 ++ rest.0, rest.1 ∙ ap (λ l. l ++ rest.0) first.1 ∙ append_assoc nodes first.0 rest.0)

kept : (nodes some : List ℕ) (node : ℕ) → Contains nodes node → Contains (insert_all nat_eq nodes some) node
kept nodes some node there =
    let more = all-kept nodes some in
    subst (λ (l : List ℕ). Contains l node) (sym more.1) (Contains-append_left nodes more.0 node there)

ends-has : (nodes : List ℕ) (edges : List Edge) → All (λ edge. Contains (insert_all nat_eq nodes (map (λ edge. edge.to) edges)) edge.to) edges
ends-has nodes [] = λ k d below. absurd (omega arith)
ends-has nodes (edge ∷ edges) =
    All-cons (λ (other : Edge). Contains (insert_all nat_eq nodes (map (λ edge. edge.to) (edge ∷ edges))) other.to) edge edges
    (kept (insert_key nat_eq nodes edge.to) (map (λ edge. edge.to) edges) edge.to (insert-has nodes edge.to)) (ends-has (insert_key nat_eq nodes edge.to) edges)

all-only : (P : ℕ → Type 0) (nodes some : List ℕ) → All P nodes → All P some → All P (insert_all nat_eq nodes some)
all-only P nodes [] old new = old
all-only P nodes (node ∷ some) old new = all-only P (insert_key nat_eq nodes node) some (insert-only P nodes node old (All-head P node some new)) (All-tail P node some new)

-- ---- the walk

-- one edge further
reaches_on : (edges : List Edge) (a b : ℕ) (edge : Edge) → Reaches edges a b → b ≡ edge.from → Contains edges edge → Reaches edges a edge.to
reaches_on edges a b edge (Here node) is there = subst (λ (n : ℕ). Reaches edges n edge.to) (sym is) (Along edge edge.to there (Here edge.to))
reaches_on edges a b edge (Along first end along rest) is there = Along first edge.to along (reaches_on edges first.to end edge rest is there)

-- the ends of a node's edges are among some nodes
abbrev HasEnds : List Edge → List ℕ → ℕ → Type 0
HasEnds edges nodes node = (edge : Edge) → edge.from ≡ node → Contains edges edge → Contains nodes edge.to

pub record Walked (edges : List Edge) (start place : ℕ) (met : List ℕ) : Type 0 where
  pub starts : Contains met start
  pub reached : All (Reaches edges start) met
  pub followed : All (HasEnds edges met) (take place met)

pub walked_start : (edges : List Edge) (start : ℕ) (none met : List ℕ) → none ≡ [] → met ≡ insert_key nat_eq none start → Walked edges start 0 met
walked_start edges start none met empty is =
    let one : met ≡ start ∷ [] = is ∙ ap (λ l. insert_key nat_eq l start) empty in
    rw one (record {
      starts = Contains-push [] start;
      reached = All-cons (Reaches edges start) start [] (Here start) (λ k d below. absurd (omega arith));
      followed = λ k d below. absurd (omega arith);
    })

module _ (edges some : List Edge) (start place node : ℕ) (met : List ℕ) (walked : Walked edges start place met) (below : place < length met) (at : get_or met place 0 ≡ node) (are : AreAllFrom edges node some) where
  abbrev ends : List ℕ
  ends = map (λ edge. edge.to) some

  abbrev new : List ℕ
  new = insert_all nat_eq met ends

  reached_node : Reaches edges start node
  reached_node = subst (Reaches edges start) at (walked.reached place 0 below)

  reached_ends : All (Reaches edges start) ends
  reached_ends =
      All-map (Reaches edges start) (λ (edge : Edge). edge.to) some
      (All-weaker (λ edge. (edge.from ≡ node) × Contains edges edge) (λ edge. Reaches edges start edge.to) (λ edge h. reaches_on edges start node edge reached_node (sym h.0) h.1) some are.only)

  has_ends : HasEnds edges new node
  has_ends edge is there = All-contains (λ edge. Contains new edge.to) some edge (ends-has met some) (are.all edge is there)

  still : All (HasEnds edges new) (take place met)
  still = All-weaker (HasEnds edges met) (HasEnds edges new) (λ node has edge is there. kept met ends edge.to (has edge is there)) (take place met) walked.followed

  front : take (place + 1) new ≡ take (place + 1) met
  front =
      let more = all-kept met ends in
      ap (take (place + 1)) more.1 ∙ take-append-le (place + 1) met more.0 (omega arith)

  pub walked_next : Walked edges start (place + 1) (insert_all nat_eq met (map (λ edge. edge.to) some))
  walked_next = record {
    starts = kept met ends start walked.starts;
    reached = all-only (Reaches edges start) met ends walked.reached reached_ends;
    followed = subst (All (HasEnds edges new)) (sym front) (All-more (HasEnds edges new) met place 0 below still (subst (HasEnds edges new) (sym at) has_ends));
  }

-- whatever the edges lead to has been met, once the edges of all that was met are followed
module _ (edges : List Edge) (met : List ℕ) (all : All (HasEnds edges met) met) where
  met_along : (a b : ℕ) → Reaches edges a b → Contains met a → Contains met b
  met_along a b (Here node) there = there
  met_along a b (Along edge end along rest) there = met_along edge.to end rest (All-contains (HasEnds edges met) met edge.from all there edge refl along)

pub walked_all : (edges : List Edge) (start place : ℕ) (met : List ℕ) → Walked edges start place met → length met ≤ place → (node : ℕ) → Contains met node ↔ Reaches edges start node
walked_all edges start place met walked past node = (
  All-contains (Reaches edges start) met node walked.reached,
  λ reaches. met_along edges met (subst (All (HasEnds edges met)) (take_all place met past) walked.followed) start node reaches walked.starts,
)
