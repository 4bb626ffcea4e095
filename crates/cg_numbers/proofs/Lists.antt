-- Lists that grow.
use Rattle.std.proofs.Common.{◌≡◌, sym, ap, ◌∙◌, Bool, true, false, List, [], ◌∷◌, ◌++◌, append_assoc, append-nil, if◌then◌else◌, ℕ, zero, suc, Some, None, slice_get, true≢false, inl, inr, refl, subst, ◌⊎◌}
use Rattle.std.specs.List.{IsDistinct, AllByRecursion}
use Rattle.cg_solve.specs.Lists.{Has}
use Rattle.cg_solve.proofs.Members.{Has-cases}
use Rattle.cg_numbers.specs.Numbered.{Continues, IsAt, IsOnce, GrowsBy}

-- as a set takes a key
pub inserted : {A : Type 0} (b : Bool) (old new : List A) (key : A) → new ≡ (if b then old else old ++ key ∷ []) → Continues old new
inserted true old new key e = ([], e ∙ sym (append-nil old))
inserted false old new key e = (key ∷ [], e)

pub grown_by : {A : Type 0} (b : Bool) (old new : List A) (key : A) → new ≡ (if b then old else old ++ key ∷ []) → GrowsBy old new key
grown_by true old new key e = inl e
grown_by false old new key e = inr e

pub continues_self : {A : Type 0} (xs : List A) → Continues xs xs
continues_self xs = ([], sym (append-nil xs))

pub continues_on : {A : Type 0} (xs ys zs : List A) → Continues xs ys → Continues ys zs → Continues xs zs
continues_on {A = A} xs ys zs h k = (h.0 ++ k.0, k.1 ∙ ap (λ (l : List A). l ++ k.0) h.1 ∙ append_assoc xs h.0 k.0)

none_here : {A : Type 0} {x : A} → ◌≡◌ {A = _} None (Some x) → ⊥
none_here h = cc

some_same : {A : Type 0} (x y : A) → Some x ≡ Some y → x ≡ y
some_same x y h = cc

-- what is at a place stays there
at_front : {A : Type 0} (xs more : List A) (n : ℕ) (x : A) → IsAt xs n x → IsAt (xs ++ more) n x
at_front [] more n x h = absurd (none_here h)
at_front (y ∷ xs) more zero x h = h
at_front (y ∷ xs) more (suc n) x h = at_front xs more n x h

pub at_later : {A : Type 0} (old new : List A) (n : ℕ) (x : A) → Continues old new → IsAt old n x → IsAt new n x
at_later {A = A} old new n x h k = ap (λ (l : List A). slice_get l n) h.1 ∙ at_front old h.0 n x k

pub has_at : {A : Type 0} (xs : List A) (n : ℕ) (x : A) → IsAt xs n x → Has xs x
has_at [] n x h = absurd (none_here h)
has_at (y ∷ xs) zero x h = inl (some_same y x h)
has_at (y ∷ xs) (suc n) x h = inr (has_at xs n x h)

pub at_has : {A : Type 0} (xs : List A) (x : A) → Has xs x → (n : ℕ) × IsAt xs n x
at_has [] x h = absurd h
at_has (y ∷ xs) x (inl e) = (0, ap Some e)
at_has (y ∷ xs) x (inr h) = let r = at_has xs x h in (suc r.0, r.1)

pub grown_cases : {A : Type 0} (old new : List A) (key x : A) → GrowsBy old new key → Has new x → Has old x ⊎ (x ≡ key)
grown_cases {A = A} old new key x (inl e) h = inl (subst (λ (l : List A). Has l x) e h)
grown_cases {A = A} old new key x (inr e) h = elim (Has-cases old (key ∷ []) x (subst (λ (l : List A). Has l x) e h)) [ inl g ↦ inl g | inr (inl f) ↦ inr (sym f) | inr (inr g) ↦ absurd g ]

-- ---- keys that differ

all_at : {A : Type 0} (P : A → Type 0) (xs : List A) (n : ℕ) (x : A) → AllByRecursion P xs → IsAt xs n x → P x
all_at P [] n x a h = absurd (none_here h)
all_at P (y ∷ xs) zero x a h = subst P (some_same y x h) a.0
all_at P (y ∷ xs) (suc n) x a h = all_at P xs n x a.1 h

module _ {A : Type 0} (eq : A → A → Bool) (self : (x : A) → eq x x ≡ true) where
  apart : (y x : A) → y ≡ x → eq y x ≡ false → ⊥
  apart y x e h = true≢false (sym (self x) ∙ (sym (ap (λ (z : A). eq z x) e) ∙ h))

  pub once : (xs : List A) → IsDistinct eq xs → IsOnce xs
  unfolding IsDistinct
  once [] d i j x h k = absurd (none_here h)
  once (y ∷ xs) d zero zero x h k = refl
  once (y ∷ xs) d zero (suc j) x h k = absurd (apart y x (some_same y x h) (all_at (λ (z : A). eq y z ≡ false) xs j x d.0 k))
  once (y ∷ xs) d (suc i) zero x h k = absurd (apart y x (some_same y x k) (all_at (λ (z : A). eq y z ≡ false) xs i x d.0 h))
  once (y ∷ xs) d (suc i) (suc j) x h k = ap suc (once xs d.1 i j x h k)
