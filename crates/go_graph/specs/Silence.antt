-- Which faults are silenced, and the first that is not.
use Rattle.std.specs.Prelude.{◌≡◌, ◌≢◌, ◌<◌, ◌⊎◌, ℕ, List, [], ◌∷◌, Some, not, length, slice_get, slice_index}
use Rattle.std.specs.Prelude.{slice_set, if◌then◌else◌, Bool, true, false, ◌||◌, ◌&&◌, nat_lt}
use Rattle.go_graph.specs.declared.fault.Fault.{Fault}
use Rattle.go_graph.specs.Graph.{IsAmong, StandsOn, next}
use Rattle.go_graph.specs.Marks.{marked, leaves}

-- A fault silences another whose node stands on its own, and not the other way round; or the other way round too, where
-- it alone is one of a node on a cycle.
pub record Silences (edges : ℕ → List ℕ) (g f : Fault) : Type 0 where
  pub stands : StandsOn edges f.node g.node
  pub below : (StandsOn edges g.node f.node → ⊥) ⊎ ((g.on_cycle ≡ true) × (f.on_cycle ≡ false))

-- It is one of the faults, and none of them silences it.
pub record IsUnsilenced (edges : ℕ → List ℕ) (faults : List Fault) (f : Fault) : Type 0 where
  pub is_fault : IsAmong f faults
  pub unsilenced : (g : Fault) → IsAmong g faults → Silences edges g f → ⊥

-- A fault that none of the unsilenced faults silences is unsilenced itself.
abbrev pub IsHeard : (ℕ → List ℕ) → List Fault → Type 0
IsHeard edges faults =
    (f : Fault) → IsAmong f faults → ((g : Fault) → IsUnsilenced edges faults g → Silences edges g f → ⊥)
    → IsUnsilenced edges faults f

-- The fault at the index is the first that is unsilenced.
pub record IsFirst (edges : ℕ → List ℕ) (faults : List Fault) (index : ℕ) : Type 0 where
  pub fault : Fault
  pub fault_is : slice_get faults index ≡ Some fault
  pub unsilenced : IsUnsilenced edges faults fault
  pub before : (k : ℕ) (g : Fault) → k < index → slice_get faults k ≡ Some g → IsUnsilenced edges faults g → ⊥

-- each fault is at a node of a graph of so many
abbrev pub AreAtNodes : ℕ → List Fault → Type 0
AreAtNodes count faults = (f : Fault) → IsAmong f faults → f.node < count

-- ---- what the code computes

abbrev pub are_at_nodes : ℕ → List Fault → Bool
are_at_nodes count [] = true
are_at_nodes count (f ∷ fs) = nat_lt f.node count && are_at_nodes count fs

-- whether a fault is silenced, by marks on components: those that stand on a component with a fault, and those with a
-- fault on a cycle
abbrev pub is_silenced : List ℕ → List Bool → List Bool → List Bool → Fault → Bool
is_silenced of below cyclic cycles f =
    marked below (slice_index of f.node)
    || (marked cyclic f.node && (marked cycles (slice_index of f.node) && not (f.on_cycle)))

-- the faults below an index are silenced
abbrev pub AreSilencedBelow : List ℕ → List Bool → List Bool → List Bool → List Fault → ℕ → Type 0
AreSilencedBelow of below cyclic cycles faults index =
    (k : ℕ) (g : Fault) → k < index → slice_get faults k ≡ Some g → is_silenced of below cyclic cycles g ≡ true

-- the first fault that is not silenced, by these marks
pub record IsFirstByMarks (of : List ℕ) (below cyclic cycles : List Bool) (faults : List Fault) (index : ℕ) :
    Type 0 where
  pub fault : Fault
  pub fault_is : slice_get faults index ≡ Some fault
  pub unsilenced : is_silenced of below cyclic cycles fault ≡ false
  pub before : AreSilencedBelow of below cyclic cycles faults index

-- all faults are silenced, by these marks
abbrev pub AreAllSilenced : List ℕ → List Bool → List Bool → List Bool → List Fault → Type 0
AreAllSilenced of below cyclic cycles faults =
    (k : ℕ) (g : Fault) → slice_get faults k ≡ Some g → is_silenced of below cyclic cycles g ≡ true

-- marks at the nodes with a fault
abbrev pub placed : List Fault → List Bool → List Bool
placed [] marks = marks
placed (f ∷ fs) marks = placed fs (slice_set marks f.node true)

-- marks at the components with a fault on a cycle
abbrev pub with_cycle : List ℕ → Fault → List Bool → List Bool
with_cycle of f marks = if f.on_cycle then slice_set marks (slice_index of f.node) true else marks

abbrev pub cycles_in : List ℕ → List Fault → List Bool → List Bool
cycles_in of [] marks = marks
cycles_in of (f ∷ fs) marks = cycles_in of fs (with_cycle of f marks)

-- marks at the components that stand on a component with a flag, other than themselves
abbrev pub below_one : List (List ℕ) → List ℕ → List Bool → ℕ → List Bool → List Bool
below_one rows of flags x marks =
    if leaves of flags (slice_index of x) (next rows x) then slice_set marks (slice_index of x) true else marks

-- A node of the component stands on a component with a flag, other than its own.
pub record LeavesFor (rows : List (List ℕ)) (of : List ℕ) (flags : List Bool) (g : ℕ) : Type 0 where
  pub from : ℕ
  pub to : ℕ
  pub within : from < length rows
  pub is_in : slice_index of from ≡ g
  pub edge : IsAmong to (next rows from)
  pub other : slice_index of to ≢ g
  pub flag : marked flags (slice_index of to) ≡ true

-- The marks are at such components, of nodes below a number.
pub record IsBelowMarks (rows : List (List ℕ)) (of : List ℕ) (size : ℕ) (flags : List Bool) (n : ℕ)
    (marks : List Bool) : Type 0 where
  pub len : length marks ≡ size
  pub sound : (g : ℕ) → marked marks g ≡ true → LeavesFor rows of flags g
  pub complete : (x y : ℕ) → x < n → IsAmong y (next rows x) → slice_index of y ≢ slice_index of x
      → marked flags (slice_index of y) ≡ true → marked marks (slice_index of x) ≡ true
