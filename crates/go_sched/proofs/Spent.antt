-- When no number is left.
use Rattle.std.proofs.Common.{◌≡◌, ℕ, zero, suc, ◌<◌, ◌≤◌, List, [], ◌∷◌, length, drop, leb, refl, ◌∙◌, Bool, true, false, arith}
use Rattle.std.proofs.lemmas.Bool.{le-leb, lt-leb, leb-true, leb-false}
use Rattle.go_sched.specs.Choices.{is_empty}

leb_suc_at : (m n : ℕ) (b : Bool) → leb m n ≡ b → leb (suc m) (suc n) ≡ b
leb_suc_at m n true is = let le : m ≤ n = leb-true m n is in le-leb (suc m) (suc n) (omega arith)
leb_suc_at m n false is = let lt : n < m = leb-false m n is in lt-leb (suc m) (suc n) (omega arith)

pub empty_past : (xs : List ℕ) (n : ℕ) → leb (length xs) n ≡ is_empty (drop n xs)
empty_past [] zero = refl
empty_past [] (suc n) = le-leb 0 (suc n) (omega arith)
empty_past (x ∷ xs) zero = lt-leb (suc (length xs)) 0 (omega arith)
empty_past (x ∷ xs) (suc n) = leb_suc_at (length xs) n (leb (length xs) n) refl ∙ empty_past xs n
