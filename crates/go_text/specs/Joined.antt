-- The items of a list with a text between them.
use Rattle.std.specs.Prelude.{ℕ, zero, suc, ◌==◌, List, [], ◌∷◌, ◌++◌, if◌then◌else◌}

-- the text of each item, and the separator between two
abbrev pub joined : {A : Type 0} → List ℕ → (A → List ℕ) → List A → List ℕ
joined separator piece [] = []
joined separator piece (x ∷ []) = piece x
joined separator piece (x ∷ (y ∷ rest)) = piece x ++ (separator ++ joined separator piece (y ∷ rest))

-- what stands before an item
abbrev pub separator_at : List ℕ → ℕ → List ℕ
separator_at separator index = if index == 0 then [] else separator
