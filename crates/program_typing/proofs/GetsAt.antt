-- What `get` reads.
use Rattle.std.proofs.Common.{◌≡◌, ◌<◌, ◌≤◌, refl, sym, ap, ◌∙◌, List, length, get_or, Option, Some, None, ℕ, slice_get, option_copied, MatchOption, IfSome, Bor}
use Rattle.std.proofs.lemmas.Option.{slice_get_past, slice_get_read}

pub got : {A : Type 0} (xs : List A) (i : ℕ) (o : Option (Bor A)) (P : Bor A → Type 0) → MatchOption o (length xs ≤ i) (λ x. (i < length xs) × P x) → IfSome o (λ x. x.now ≡ get_or xs i x.now) → option_copied o ≡ slice_get xs i
got xs i None P m h = sym (slice_get_past xs i m)
got xs i (Some x) P m h = sym (slice_get_read xs (length xs) i x.now refl m.0 h)

-- of a list that a slice shows
pub none_at : {A : Type 0} (xs ys : List A) (i : ℕ) → xs ≡ ys → length xs ≤ i → slice_get ys i ≡ None
none_at {A = A} xs ys i e past = ap (λ (l : List A). slice_get l i) (sym e) ∙ slice_get_past xs i past

pub some_at : {A : Type 0} (xs ys : List A) (i : ℕ) (x : A) → xs ≡ ys → i < length xs → x ≡ get_or xs i x → slice_get ys i ≡ Some x
some_at {A = A} xs ys i x e below is = ap (λ (l : List A). slice_get l i) (sym e) ∙ slice_get_read xs (length xs) i x refl below is
