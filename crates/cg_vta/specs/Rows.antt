-- What is made of the candidates in rows.
use Rattle.std.specs.Prelude.{ℕ, Bool, List, [], if◌then◌else◌}
use Rattle.cg_sets.specs.declared.candidates.Candidate.{Candidate}
use Rattle.cg_solve.specs.LeastSets.{marked}
use Rattle.cg_solve.specs.Lists.{Has}

-- what f gives of each candidate in a row, and nothing else
pub record AreOf {A : Type 0} (rows : ℕ → List Candidate) (f : ℕ → Candidate → List A) (items : List A) : Type 0 where
  pub only : (x : A) → Has items x → (k : ℕ) × (c : Candidate) × Has (rows k) c × Has (f k c) x
  pub whole : (k : ℕ) (c : Candidate) (x : A) → Has (rows k) c → Has (f k c) x → Has items x

abbrev pub if_so : Bool → List Candidate → List Candidate
if_so test candidates = if test then candidates else []

-- the candidates of a group that is marked
abbrev pub called_row : List Bool → (ℕ → List Candidate) → ℕ → List Candidate
called_row called rows k = if_so (marked called k) (rows k)
