-- What is kept while the groups of a graph are taken one after the other.
use Rattle.std.specs.Prelude.{◌≡◌, ◌+◌, ◌<◌, ◌≤◌, ℕ, true, false, List, [], ◌∷◌, ◌++◌, ◌⊎◌}
use Rattle.std.specs.Prelude.{Option, Some, None, length, slice_index, slice_index_or}
use Rattle.std.specs.Option.{option_to_list}
use Rattle.go_graph.specs.Graph.{IsAmong, IsGraph, AreComponents}
use Rattle.init_order.specs.declared.edges.Edge.{Edge}
use Rattle.init_order.specs.Naming.{Naming}
use Rattle.init_order.specs.Order.{IsOrderAfter, IsInitOrder}
use Rattle.init_order.specs.declared.taking.Taking.{Taking}
use Rattle.init_order.specs.Groups.{AreGroupEdges, State, has, waits, times}

-- what the code keeps
abbrev pub state : Taking → State
state t = record { waiting = t.waiting.items; free = t.free.items; ready = t.ready.keys; taken = t.taken.items }

-- no number stands twice in the list
abbrev pub AreDistinct : List ℕ → Type 0
AreDistinct [] = Unit {0}
AreDistinct (x ∷ xs) = (IsAmong x xs → ⊥) × AreDistinct xs

-- a step that is ready has the group
pub record OfReady (label : ℕ → Option ℕ) (ready : List ℕ) (g : ℕ) : Type 0 where
  pub step : ℕ
  pub is_label : label g ≡ Some step
  pub is_ready : IsAmong step ready

-- a group waits for nothing and is not taken
pub record Waitless (n : ℕ) (w : ℕ → ℕ) (taken : List ℕ) (g : ℕ) : Type 0 where
  pub less : g < n
  pub is_left : has g taken ≡ false
  pub none : w g ≡ 0

-- what is kept while groups are taken: those pending are still to be told of a group that is taken
pub record IsTaking (n : ℕ) (edges : List Edge) (label : ℕ → Option ℕ) (group : ℕ → ℕ) (pending : List ℕ)
    (w : ℕ → ℕ) (free ready taken : List ℕ) : Type 0 where
  pub counts : (g : ℕ) → g < n → w g ≡ waits edges taken g + times g pending
  pub kept : (g : ℕ) → g < n → has g taken ≡ false → w g ≡ 0 → IsAmong g free ⊎ OfReady label ready g
  pub is_free : (g : ℕ) → IsAmong g free → Waitless n w taken g × (label g ≡ None)
  pub is_ready : (s : ℕ) → IsAmong s ready → Waitless n w taken (group s) × (label (group s) ≡ Some s)
  pub to_tell : (g : ℕ) → IsAmong g pending → (g < n) × (has g taken ≡ false)
  pub distinct : AreDistinct free
  pub closed : (e : Edge) → IsAmong e edges → has e.leaves taken ≡ true → has e.enters taken ≡ true

-- a free group is taken, or the first of the steps that are ready
pub record TakesFree (g : ℕ) (free ready free2 ready2 : List ℕ) : Type 0 where
  pub last : free ≡ free2 ++ g ∷ []
  pub same_ready : ready2 ≡ ready

pub record TakesStep (group : ℕ → ℕ) (g : ℕ) (free ready free2 ready2 : List ℕ) : Type 0 where
  pub step : ℕ
  pub none_free : free ≡ []
  pub none_free2 : free2 ≡ []
  pub first : ready ≡ step ∷ ready2
  pub of_group : group step ≡ g
  pub above : (x : ℕ) → IsAmong x ready2 → step < x

-- what the groups of a graph are, and the steps of some of them
pub record AreParts (names : Naming) (of order : List ℕ) (edges : List Edge) (label : ℕ → Option ℕ) : Type 0 where
  pub graph : IsGraph names.rows
  pub components : AreComponents names.rows of order
  pub group_edges : AreGroupEdges names.rows of edges
  pub room : names.variables + names.steps ≤ length names.rows
  pub labels : (s : ℕ) → s < names.steps → label (slice_index of (names.variables + s)) ≡ Some s
  pub of_label : (g s : ℕ) → label g ≡ Some s → (s < names.steps) × (slice_index of (names.variables + s) ≡ g)

-- the steps of the groups in a list
abbrev pub steps_of : (ℕ → Option ℕ) → List ℕ → List ℕ
steps_of label [] = []
steps_of label (g ∷ taken) = option_to_list (label g) ++ steps_of label taken

-- what is taken so far is the beginning of the order
pub record IsBeginning (names : Naming) (of : List ℕ) (label : ℕ → Option ℕ) (taken : List ℕ) : Type 0 where
  pub before : List ℕ
  pub there : (s : ℕ) → s < names.steps → has (slice_index of (names.variables + s)) taken ≡ true → IsAmong s before
  pub back : (s : ℕ) → IsAmong s before → has (slice_index of (names.variables + s)) taken ≡ true
  pub goes_on : (rest : List ℕ) → IsOrderAfter names before rest → IsInitOrder names (steps_of label taken ++ rest)

-- the next group is taken from those that are free, or is that of the first step
abbrev pub Takes : List ℕ → ℕ → State → State → Type 0
Takes groups g s t =
    TakesFree g s.free s.ready t.free t.ready ⊎ TakesStep (slice_index groups) g s.free s.ready t.free t.ready

-- The labels are the first steps, each at its group.
pub record AreLabels (groups : List ℕ) (count : ℕ) (labels : List (Option ℕ)) : Type 0 where
  pub there : (s : ℕ) → s < count → slice_index_or labels (slice_index groups s) None ≡ Some s
  pub back : (g s : ℕ) → slice_index_or labels g None ≡ Some s → (s < count) × (slice_index groups s ≡ g)

-- two steps have one group
pub record HaveOneGroup (groups : List ℕ) : Type 0 where
  pub s : ℕ
  pub t : ℕ
  pub first : s < t
  pub second : t < length groups
  pub one : slice_index groups s ≡ slice_index groups t
