-- Marks on nodes, and on components.
use Rattle.std.specs.Prelude.{◌≡◌, ◌<◌, ℕ, Bool, true, false, ◌||◌, ◌&&◌, not, List, [], ◌∷◌, length, nat_eq}
use Rattle.std.specs.Prelude.{slice_index, slice_index_or, slice_set, if◌then◌else◌}
use Rattle.go_graph.specs.Graph.{Reaches, next}

-- whether there is a mark at a number
abbrev pub marked : List Bool → ℕ → Bool
marked marks x = slice_index_or marks x false

-- The marks are at the nodes of which something holds.
pub record AreMarks (count : ℕ) (P : ℕ → Type 0) (marks : List Bool) : Type 0 where
  pub size : length marks ≡ count
  pub sound : (x : ℕ) → marked marks x ≡ true → P x
  pub complete : (x : ℕ) → x < count → P x → marked marks x ≡ true

-- whether one of the nodes is in a component
abbrev pub has_component : List ℕ → ℕ → List ℕ → Bool
has_component of g [] = false
has_component of g (x ∷ xs) = nat_eq (slice_index of x) g || has_component of g xs

-- whether one of the nodes is in a component with a mark
abbrev pub has_flag : List ℕ → List Bool → List ℕ → Bool
has_flag of flags [] = false
has_flag of flags (x ∷ xs) = marked flags (slice_index of x) || has_flag of flags xs

-- the marks of components after one more node
abbrev pub flagged : List (List ℕ) → List ℕ → List Bool → ℕ → List Bool → List Bool
flagged rows of marks x flags =
    if marked marks x || has_flag of flags (next rows x) then slice_set flags (slice_index of x) true else flags

-- One comes from a node to one with a mark.
pub record ReachesMark (rows : List (List ℕ)) (marks : List Bool) (x : ℕ) : Type 0 where
  pub end : ℕ
  pub reaches : Reaches (next rows) x end
  pub is_marked : marked marks end ≡ true

-- The components are marked from whose nodes one comes to a node with a mark.
pub record AreReaching (rows : List (List ℕ)) (of order : List ℕ) (marks flags : List Bool) : Type 0 where
  pub size : length flags ≡ length order
  pub sound : (x : ℕ) → x < length rows → marked flags (slice_index of x) ≡ true → ReachesMark rows marks x
  pub complete : (x : ℕ) → x < length rows → ReachesMark rows marks x → marked flags (slice_index of x) ≡ true

-- whether one of the nodes is in another component, which has a mark
abbrev pub leaves : List ℕ → List Bool → ℕ → List ℕ → Bool
leaves of flags g [] = false
leaves of flags g (x ∷ xs) =
    (not (nat_eq (slice_index of x) g) && marked flags (slice_index of x)) || leaves of flags g xs
