-- A search among numbers that ascend.
use Rattle.std.proofs.Common.{◌≡◌, ℕ, ◌<◌, ◌≤◌, ◌==◌, List, length, get_or, Result, Ok, Err, is_ok, true, false, sym, arith}
use Rattle.std.specs.List.{list_any}
use Rattle.std.specs.List.Sorted.{IsStrictlyIncreasing, IsBinarySearchResult}
use Rattle.std.specs.Ordering.{nat_cmp}
use Rattle.std.proofs.lemmas.List.Folds.{list_any_at, list_any_none}
use Rattle.std.proofs.lemmas.List.{get_or_default}
use Rattle.std.proofs.lemmas.List.Kept.{AllPairs-from_increasing}
use Rattle.std.proofs.lemmas.List.Sorted.{searched}

never_falls : (xs : List ℕ) → IsStrictlyIncreasing xs → (i j : ℕ) → i ≤ j → j < length xs → get_or xs i 0 ≤ get_or xs j 0
never_falls xs rises i j h b = grind (arith, AllPairs-from_increasing xs rises i j 0)

is_equal : (x y : ℕ) → x ≡ y → (x == y) ≡ true
is_equal x y e = grind arith

differs : (i : ℕ) (xs : List ℕ) (x : ℕ) → ((k : ℕ) → k < i → get_or xs k 0 < x) → ((k : ℕ) → i ≤ k → k < length xs → x < get_or xs k 0)
    → (k d : ℕ) → k < length xs → (get_or xs k d == x) ≡ false
differs i xs x below above k d h = grind (arith, below k, above k, get_or_default xs k d 0 h)

pub listed : (xs : List ℕ) (x : ℕ) (r : Result ℕ ℕ) → IsStrictlyIncreasing xs → IsBinarySearchResult (λ y. nat_cmp y x) xs r
    → is_ok r ≡ list_any (λ y. y == x) xs
listed xs x (Ok i) rises found =
    let at = searched xs x (Ok i) found (never_falls xs rises) in
    sym (list_any_at (λ y. y == x) xs i 0 at.0 (is_equal _ x at.1))
listed xs x (Err i) rises found =
    let around = searched xs x (Err i) found (never_falls xs rises) in
    sym (list_any_none (λ y. y == x) xs (λ k d h. differs i xs x around.1 around.2 k d h))
