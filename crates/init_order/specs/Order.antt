-- The order in which variables are initialised. Go specification, "Package initialization".
use Rattle.std.specs.Prelude.{◌≡◌, ◌≢◌, ◌+◌, ◌<◌, ◌≤◌, ℕ, List, [], ◌∷◌}
use Rattle.go_graph.specs.Graph.{IsAmong, StandsOn, next}
use Rattle.init_order.specs.Naming.{Naming}

-- A step stands on another: what it names, or what that names and so on, is a variable of the other.
abbrev pub StepStandsOn : Naming → ℕ → ℕ → Type 0
StepStandsOn names s t = StandsOn (next names.rows) (names.variables + s) (names.variables + t)

-- A step is ready: it is not taken yet, and each other step that it stands on is.
pub record IsReady (names : Naming) (taken : List ℕ) (s : ℕ) : Type 0 where
  pub is_step : s < names.steps
  pub is_left : IsAmong s taken → ⊥
  pub stands : (t : ℕ) → t < names.steps → t ≢ s → StepStandsOn names s t → IsAmong t taken

-- It is the next step to be taken: the first that is ready.
pub record IsNext (names : Naming) (taken : List ℕ) (s : ℕ) : Type 0 where
  pub ready : IsReady names taken s
  pub first : (t : ℕ) → IsReady names taken t → s ≤ t

-- the order in which the steps are taken that are not taken yet
abbrev pub IsOrderAfter : Naming → List ℕ → List ℕ → Type 0
IsOrderAfter names taken [] = (s : ℕ) → s < names.steps → IsAmong s taken
IsOrderAfter names taken (s ∷ rest) = IsNext names taken s × IsOrderAfter names (s ∷ taken) rest

-- the order in which all steps are taken
abbrev pub IsInitOrder : Naming → List ℕ → Type 0
IsInitOrder names order = IsOrderAfter names [] order

-- Two steps stand on each other, so none of them can be the first to be taken.
pub record StandOnEachOther (names : Naming) : Type 0 where
  pub s : ℕ
  pub t : ℕ
  pub first : s < names.steps
  pub second : t < names.steps
  pub differ : s ≢ t
  pub there : StepStandsOn names s t
  pub back : StepStandsOn names t s

-- There is one such order at most.
abbrev pub OneOrder : Type 0
OneOrder = (names : Naming) (a b : List ℕ) → IsInitOrder names a → IsInitOrder names b → a ≡ b
