-- The least set of numbers under rules, and what a search for it keeps.
use Rattle.std.specs.Prelude.{◌≡◌, ◌<◌, ℕ, suc, List, [], ◌∷◌, ◌++◌, ◌⊎◌, Bool, true, false, ◌&&◌, not, nat_lt, length}
use Rattle.std.specs.Prelude.{slice_index_or, slice_set, ◌==◌, ◌↔◌, if◌then◌else◌}
use Rattle.cg_solve.specs.declared.solving.Rule.{Rule}
use Rattle.cg_solve.specs.declared.solving.Search.{Search}
use Rattle.cg_solve.specs.declared.table.Table.{Table}
use Rattle.cg_solve.specs.Lists.{Has, when}
use Rattle.cg_solve.specs.Tables.{row}

-- a number is in the least set where a finite derivation leads to it
pub data Derives (seeds : List ℕ) (rules : List Rule) : ℕ → Type 0 where
  seed : (n : ℕ) → Has seeds n → Derives seeds rules n
  rule : (r : Rule) → Has rules r → Derives seeds rules r.left → Derives seeds rules r.right
      → Derives seeds rules r.then

-- the row of a number has the rules that need it
pub record IsIndex (rules : List Rule) (table : Table Rule) : Type 0 where
  pub sound : (k : ℕ) (r : Rule) → Has (row table k) r → Has rules r
  pub left : (r : Rule) → Has rules r → Has (row table r.left) r
  pub right : (r : Rule) → Has rules r → Has (row table r.right) r

abbrev pub marked : List Bool → ℕ → Bool
marked marks n = slice_index_or marks n false

-- the numbers that are found, by marks and as a list, and those whose rules are still to be followed
pub record Found : Type 0 where
  pub marks : List Bool
  pub queue : List ℕ
  pub found : List ℕ

abbrev pub search_of : Search → Found
search_of s = record { marks = s.marks.items; queue = s.queue.items; found = s.found.items }

abbrev pub added : ℕ → Found → Found
added n s =
    if nat_lt n (length s.marks) && not (marked s.marks n)
    then record { marks = slice_set s.marks n true; queue = s.queue ++ n ∷ []; found = s.found ++ n ∷ [] } else s

abbrev pub added_all : List ℕ → Found → Found
added_all [] s = s
added_all (n ∷ ns) s = added_all ns (added n s)

abbrev pub followed : List Rule → Found → Found
followed [] s = s
followed (r ∷ rs) s = followed rs (if marked s.marks r.left && marked s.marks r.right then added r.then s else s)

-- a rule has given what it gives, or will
abbrev pub Settled : Found → Rule → Type 0
Settled s r = (marked s.marks r.then ≡ true) ⊎ (Has s.queue r.left ⊎ Has s.queue r.right)

-- Each number that is found has a derivation, and the numbers that are found are closed under rules, but for what the
-- queue and these rules will still give.
pub record IsSearch (seeds : List ℕ) (rules : List Rule) (due : List Rule) (s : Found) : Type 0 where
  pub sound : (n : ℕ) → marked s.marks n ≡ true → Derives seeds rules n
  pub starts : (n : ℕ) → Has seeds n → marked s.marks n ≡ true
  pub listed : (n : ℕ) → marked s.marks n ≡ true → Has s.found n
  pub only : (n : ℕ) → Has s.found n → marked s.marks n ≡ true
  pub room : (r : Rule) → Has rules r → r.then < length s.marks
  pub closed : (r : Rule) → Has rules r → marked s.marks r.left ≡ true → marked s.marks r.right ≡ true
      → Settled s r ⊎ Has due r

-- how many are not found
abbrev pub unmarked : List Bool → ℕ
unmarked [] = 0
unmarked (true ∷ bs) = unmarked bs
unmarked (false ∷ bs) = suc (unmarked bs)

-- a rule, for each of its premises that is k
abbrev pub premise : ℕ → Rule → List Rule
premise k r = when (r.left == k) r ++ when (r.right == k) r

-- nothing is found, and there is room for what the rules give
pub record IsClear (rules : List Rule) (s : Found) : Type 0 where
  pub none : (n : ℕ) → marked s.marks n ≡ false
  pub queue : s.queue ≡ []
  pub found : s.found ≡ []
  pub room : (r : Rule) → Has rules r → r.then < length s.marks

-- what is found is the least set
pub record IsSolved (seeds : List ℕ) (rules : List Rule) (s : Found) : Type 0 where
  pub exact : (n : ℕ) → (marked s.marks n ≡ true) ↔ Derives seeds rules n
  pub listed : (n : ℕ) → marked s.marks n ≡ true → Has s.found n
  pub only : (n : ℕ) → Has s.found n → marked s.marks n ≡ true
  pub room : (r : Rule) → Has rules r → r.then < length s.marks
