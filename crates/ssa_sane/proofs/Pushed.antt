-- The items of a list with one more.
use Rattle.std.proofs.Common.{◌≡◌, ℕ, List, [], ◌∷◌, ◌++◌, Some, ap, ◌∙◌, length, arith}
use Rattle.std.specs.Prelude.{slice_get}
use Rattle.std.proofs.lemmas.List.{length_push, get_or_append_left, get_or_push}
use Rattle.std.proofs.lemmas.Option.{slice_get_within, slice_get-get_or, get_or_from_slice_get}

pub push_kept : {A : Type 0} (xs : List A) (x : A) (k : ℕ) (y : A) → slice_get xs k ≡ Some y → slice_get (xs ++ x ∷ []) k ≡ Some y
push_kept xs x k y e =
    let below = slice_get_within xs k y e in
    slice_get-get_or (xs ++ x ∷ []) k y (let n = length_push xs x in omega arith) ∙ ap Some (get_or_append_left xs (x ∷ []) y k below ∙ get_or_from_slice_get xs k y y e)

pub push_here : {A : Type 0} (xs : List A) (x : A) (k : ℕ) → length xs ≡ k → slice_get (xs ++ x ∷ []) k ≡ Some x
push_here xs x k e = slice_get-get_or (xs ++ x ∷ []) k x (let n = length_push xs x in omega arith) ∙ ap Some (get_or_push xs x x k e)
