-- Counts behind one token more.
use Rattle.std.proofs.Common.{◌≡◌, ℕ, ◌+◌, ◌<◌, ◌≤◌, List, [], ◌∷◌, length, get_or, drop, refl, sym, add-one, drop-cons, arith, Some, None}
use Rattle.std.specs.Prelude.{sum, reverse}
use Rattle.std.proofs.lemmas.Bool.{lt-ltb, le-ltb}
use Rattle.std.proofs.lemmas.List.{drop_all}
use Rattle.std.proofs.lemmas.List.Sorted.{sum_by-IsPermutation, IsPermutation-reverse}
use Rattle.go_ast.specs.declared.token.Token.{Token}
use Rattle.go_syntax.specs.Reach.{Counts, count, reach, too_deep_from}
use Rattle.go_parse.specs.declared.reach.Counts as code
use Rattle.go_parse.specs.Counting.{view_counts, IsSummed}

pub reach_of : (c : code.Counts) → IsSummed c → reach (view_counts c) ≡ c.below_sum + c.top
reach_of c s = let e : sum (reverse c.below.items) ≡ sum c.below.items = sum_by-IsPermutation (λ x. x) c.below.items (reverse c.below.items) (IsPermutation-reverse c.below.items) in omega (arith, e, s)

pub reaches_too_far : (ts : List Token) (i : ℕ) (d : Token) (c after : Counts) → i < length ts → after ≡ count (get_or ts i d).kind c → 400 < reach after → too_deep_from i c (drop i ts) ≡ Some i
reaches_too_far ts i d c after lt e over = rw (drop-cons ts i d lt) (rw (sym e) (rw (lt-ltb 400 (reach after) over) refl))

pub reaches_on : (ts : List Token) (i : ℕ) (d : Token) (c after : Counts) → i < length ts → after ≡ count (get_or ts i d).kind c → reach after ≤ 400 → too_deep_from i c (drop i ts) ≡ too_deep_from (i + 1) after (drop (i + 1) ts)
reaches_on ts i d c after lt e within = rw (drop-cons ts i d lt) (rw (sym e) (rw (le-ltb 400 (reach after) within) (rw add-one refl)))

pub reaches_end : (ts : List Token) (i : ℕ) (c : Counts) → length ts ≤ i → too_deep_from i c (drop i ts) ≡ None
reaches_end ts i c past = rw (drop_all i ts past) refl
