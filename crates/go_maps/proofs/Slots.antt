-- Slots and the entries in them.
use Rattle.std.proofs.Common.{◌≡◌, ℕ, zero, suc, ◌∙◌, ap, refl, sym, map, List, [], ◌∷◌, Some, None, slice_get, slice_set, length, get_or, ◌<◌, Result, Ok, Err, OnOk, OnErr}
use Rattle.std.proofs.lemmas.Option.{slice_get_read}
use Rattle.go_maps.specs.Entries.{changed}

pub there_at : {X : Type 0} (xs : List X) (i : ℕ) (x : X) → i < length xs → x ≡ get_or xs i x → slice_get xs i ≡ Some x
there_at xs i x below is = slice_get_read xs (length xs) i x refl below is

module _ {A B : Type 0} (see : A → B) (change : B → B) where
  -- an item that was put in the place of another
  pub item_changed : (items : List A) (k : ℕ) (item new : A) → slice_get items k ≡ Some item → see new ≡ change (see item) → map see (slice_set items k new) ≡ changed change (map see items) k
  item_changed [] k item new there same = cc
  item_changed (x ∷ items) zero item new there same = let e : x ≡ item = cc in ap (λ v. v ∷ map see items) (same ∙ ap (λ y. change (see y)) (sym e))
  item_changed (x ∷ items) (suc k) item new there same = ap (λ vs. see x ∷ vs) (item_changed items k item new there same)

  pub item_past : (items : List A) (k : ℕ) → slice_get items k ≡ None → changed change (map see items) k ≡ map see items
  item_past [] k past = refl
  item_past (x ∷ items) zero past = cc
  item_past (x ∷ items) (suc k) past = ap (λ vs. see x ∷ vs) (item_past items k past)

pub item_kept : {A B : Type 0} (see : A → B) (items : List A) (k : ℕ) (item new : A) → slice_get items k ≡ Some item → see new ≡ see item → map see (slice_set items k new) ≡ map see items
item_kept see [] k item new there same = cc
item_kept see (x ∷ items) zero item new there same = let e : x ≡ item = cc in ap (λ v. v ∷ map see items) (same ∙ ap see (sym e))
item_kept see (x ∷ items) (suc k) item new there same = ap (λ vs. see x ∷ vs) (item_kept see items k item new there same)

pub on_ok : {A E P Q : Type 0} (r : Result A E) → OnOk r P → (P → Q) → OnOk r Q
on_ok (Ok x) h f = f h
on_ok (Err e) h f = h

pub on_err : {A E P Q : Type 0} (r : Result A E) → OnErr r P → (P → Q) → OnErr r Q
on_err (Ok x) h f = h
on_err (Err e) h f = f h
