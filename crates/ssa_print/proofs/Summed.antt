-- The sum of the lengths of lists, one after another.
use Rattle.std.proofs.Common.{◌≡◌, ◌<◌, ◌≤◌, ◌+◌, ◌++◌, ℕ, List, [], ◌∷◌, Option, refl, sym, ap, ◌∙◌, length, take, get_or, arith}
use Rattle.std.specs.Prelude.{sum_by, slice_get}
use Rattle.std.proofs.lemmas.List.{take_more, take_all}
use Rattle.std.proofs.lemmas.List.Sums.{sum_by-append, sum_by-cons}
use Rattle.std.proofs.lemmas.Option.{slice_get-get_or}
use Rattle.ssa_print.specs.Codes.{length_in}

pub sum_more : (lists : List (List ℕ)) (i count now : ℕ) → i < length lists → count ≡ sum_by length (take i lists) → now ≡ count + length_in (slice_get lists i) → now ≡ sum_by length (take (i + 1) lists)
sum_more lists i count now below before step =
    let more = ap (sum_by length) (take_more lists i [] below) ∙ sum_by-append length (take i lists) (get_or lists i [] ∷ []) in
    let last = sum_by-cons length (get_or lists i []) [] in
    let here = ap length_in (slice_get-get_or lists i [] below) in
    let none : sum_by (λ (l : List ℕ). length l) [] ≡ 0 = refl in
    omega arith

pub sum_all : (lists : List (List ℕ)) (i count : ℕ) → length lists ≤ i → count ≡ sum_by length (take i lists) → count ≡ sum_by length lists
sum_all lists i count past e = e ∙ ap (sum_by length) (take_all i lists past)
