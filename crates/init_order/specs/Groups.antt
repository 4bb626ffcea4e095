-- Edges between the groups of a graph whose nodes stand on each other, and groups that are taken one after the other.
use Rattle.std.specs.Prelude.{◌≡◌, ◌≢◌, ◌-◌, ◌<◌, ◌==◌, ℕ, zero, suc, Bool, false, ◌&&◌, ◌||◌, not, List, [], ◌∷◌}
use Rattle.std.specs.Prelude.{◌++◌, Option, Some, None, nat_eq, slice_index, slice_index_or, slice_set, if◌then◌else◌}
use Rattle.std.specs.Ordering.{nat_cmp}
use Rattle.std.specs.BTreeSet.{insert_key}
use Rattle.go_graph.specs.Graph.{IsAmong, next}
use Rattle.init_order.specs.declared.edges.Edge.{Edge}

-- An edge leads from a node of one group to one of another.
pub record IsGroupEdge (rows : List (List ℕ)) (of : List ℕ) (a b : ℕ) : Type 0 where
  pub x : ℕ
  pub y : ℕ
  pub is_edge : IsAmong y (next rows x)
  pub leaves : slice_index of x ≡ a
  pub enters : slice_index of y ≡ b
  pub differ : a ≢ b

-- The edges between groups are listed, and no others.
pub record AreGroupEdges (rows : List (List ℕ)) (of : List ℕ) (edges : List Edge) : Type 0 where
  pub sound : (e : Edge) → IsAmong e edges → IsGroupEdge rows of e.leaves e.enters
  pub complete : (a b : ℕ) → IsGroupEdge rows of a b → IsAmong (record { leaves = a; enters = b }) edges

-- whether a number is one of a list
abbrev pub has : ℕ → List ℕ → Bool
has x [] = false
has x (y ∷ ys) = nat_eq x y || has x ys

-- how many edges lead from a group to groups that are not taken
abbrev pub waits : List Edge → List ℕ → ℕ → ℕ
waits [] taken g = 0
waits (e ∷ edges) taken g =
    if nat_eq e.leaves g && not (has e.enters taken) then suc (waits edges taken g) else waits edges taken g

-- the groups from which an edge leads to a group, once for each edge
abbrev pub sources : List Edge → ℕ → List ℕ
sources [] h = []
sources (e ∷ edges) h = if nat_eq e.enters h then e.leaves ∷ sources edges h else sources edges h

-- how often a number stands in a list
abbrev pub times : ℕ → List ℕ → ℕ
times g [] = 0
times g (x ∷ xs) = if nat_eq x g then suc (times g xs) else times g xs

-- where groups are taken: for how much each waits, those that wait for nothing, and those that are taken
pub record State : Type 0 where
  pub waiting : List ℕ
  -- groups without a step that wait for nothing
  pub free : List ℕ
  -- steps whose groups wait for nothing
  pub ready : List ℕ
  pub taken : List ℕ

-- a group waits for nothing
abbrev pub released : Option ℕ → ℕ → State → State
released None p s = record s { free = s.free ++ p ∷ [] }
released (Some step) p s = record s { ready = insert_key nat_cmp s.ready step }

-- a group waits for one thing less
abbrev pub passed : List (Option ℕ) → ℕ → State → State
passed labels p s =
    if slice_index s.waiting p - 1 == 0
    then released (slice_index_or labels p None) p
    (record s { waiting = slice_set s.waiting p (slice_index s.waiting p - 1) })
    else record s { waiting = slice_set s.waiting p (slice_index s.waiting p - 1) }

-- the edge from a group to another, if it is another
abbrev pub edge_between : ℕ → ℕ → List Edge
edge_between a b = if nat_eq a b then [] else record { leaves = a; enters = b } ∷ []

-- the edges from a group to those of targets
abbrev pub edges_to : List ℕ → ℕ → List ℕ → List Edge
edges_to of g [] = []
edges_to of g (y ∷ ys) = edge_between g (slice_index of y) ++ edges_to of g ys

-- Edges lead between groups that are numbered below a bound.
abbrev pub AreWithin : ℕ → List Edge → Type 0
AreWithin count edges = (e : Edge) → IsAmong e edges → (e.leaves < count) × (e.enters < count)

-- groups wait for one thing less, one after the other
abbrev pub told : List (Option ℕ) → List ℕ → State → State
told labels [] s = s
told labels (p ∷ rest) s = told labels rest (passed labels p s)

-- The edges between groups that leave nodes below a bound are listed, and no others.
pub record AreEdgesBelow (rows : List (List ℕ)) (of : List ℕ) (bound : ℕ) (edges : List Edge) : Type 0 where
  pub sound : (e : Edge) → IsAmong e edges → IsGroupEdge rows of e.leaves e.enters
  pub complete : (a b : ℕ) (k : IsGroupEdge rows of a b) → k.x < bound
      → IsAmong (record { leaves = a; enters = b }) edges

-- the numbers below a bound
abbrev pub below : ℕ → List ℕ
below zero = []
below (suc n) = below n ++ n ∷ []
