-- Two lists, compared pair by pair.
use Rattle.std.proofs.Common.{◌≡◌, ℕ, ◌+◌, ◌-◌, ◌<◌, ◌≤◌, Bool, true, false, ◌&&◌, List, [], ◌∷◌, length, take, drop, get_or, refl, sym, ◌∙◌, ap, arith, Option, Some, None}
use Rattle.std.proofs.lemmas.List.{at_drop_more, at_drop_all, take_all}
use Rattle.std.specs.Cmp.Lexicographic.{pointwise}
use Rattle.go_base.specs.declared.ids.TypeId.{TypeId}
use Rattle.go_base.specs.declared.ids.VarId.{VarId}
use Rattle.go_tree.specs.declared.stmts.Target.{Target}
use Rattle.typed_trees.specs.Around.{Around, is_own_variable}
use Rattle.typed_trees.specs.Targets.{listed_targets}
use Rattle.program_typing.specs.Walk.{are_own}

module _ {A B : Type 0} (R : A → B → Bool) where
  pair_at : (xs : List A) (ys : List B) (i : ℕ) (x d : A) (y e : B) → i < length xs → i < length ys → x ≡ get_or xs i d → y ≡ get_or ys i e
      → pointwise R (drop i xs) (drop i ys) ≡ R x y && pointwise R (drop (i + 1) xs) (drop (i + 1) ys)
  pair_at xs ys i x d y e h k p q =
      at_drop_more (λ (zs : List A). pointwise R zs (drop i ys)) xs i d h
      ∙ (at_drop_more (λ (zs : List B). pointwise R (get_or xs i d ∷ drop (i + 1) xs) zs) ys i e k
      ∙ (ap (λ (z : A). pointwise R (z ∷ drop (i + 1) xs) (get_or ys i e ∷ drop (i + 1) ys)) (sym p)
      ∙ ap (λ (z : B). R x z && pointwise R (drop (i + 1) xs) (drop (i + 1) ys)) (sym q)))

  pub pairs-kept : (xs : List A) (ys : List B) (i : ℕ) (x d : A) (y e : B) (ok whole : Bool) → i < length xs → i < length ys → x ≡ get_or xs i d → y ≡ get_or ys i e → ok ≡ R x y → ok ≡ true
      → pointwise R (drop i xs) (drop i ys) ≡ whole → pointwise R (drop (i + 1) xs) (drop (i + 1) ys) ≡ whole
  pairs-kept xs ys i x d y e ok whole h k p q says fine before =
      ap (λ (b : Bool). b && pointwise R (drop (i + 1) xs) (drop (i + 1) ys)) (sym fine ∙ says)
      ∙ (sym (pair_at xs ys i x d y e h k p q) ∙ before)

  pub pairs-ended : (xs : List A) (ys : List B) (i : ℕ) (x d : A) (y e : B) (ok whole : Bool) → i < length xs → i < length ys → x ≡ get_or xs i d → y ≡ get_or ys i e → ok ≡ R x y → ok ≡ false
      → pointwise R (drop i xs) (drop i ys) ≡ whole → false ≡ whole
  pairs-ended xs ys i x d y e ok whole h k p q says bad before =
      ap (λ (b : Bool). b && pointwise R (drop (i + 1) xs) (drop (i + 1) ys)) (sym bad ∙ says)
      ∙ (sym (pair_at xs ys i x d y e h k p q) ∙ before)

  pub pairs-done : (xs : List A) (ys : List B) (i : ℕ) (whole : Bool) → length xs ≤ i → length ys ≤ i → pointwise R (drop i xs) (drop i ys) ≡ whole → true ≡ whole
  pairs-done xs ys i whole h k before =
      sym (at_drop_all (λ (zs : List A). pointwise R zs (drop i ys)) xs i h ∙ at_drop_all (λ (zs : List B). pointwise R [] zs) ys i k) ∙ before

-- variables of the function itself, of these types
pub own_pairs : (a : Around) (ids : List VarId) (types : List TypeId) → pointwise (is_own_variable a) ids types ≡ are_own a ids types
own_pairs a [] [] = refl
own_pairs a [] (of ∷ types) = refl
own_pairs a (id ∷ ids) [] = refl
own_pairs a (id ∷ ids) (of ∷ types) = ap (λ (b : Bool). is_own_variable a id of && b) (own_pairs a ids types)

-- the first pair, and the others
pub first_pair : {A B : Type 0} (R : A → B → Bool) (x : A) (xs : List A) (ys : List B) (e : B) → 1 ≤ length ys → R x (get_or ys 0 e) && pointwise R xs (take (length ys - 1) (drop 1 ys)) ≡ pointwise R (x ∷ xs) ys
first_pair R x xs [] e h = absurd (omega arith)
first_pair {B = B} R x xs (y ∷ ys) e h = ap (λ (zs : List B). R x y && pointwise R xs zs) (take_all (length (y ∷ ys) - 1) ys (omega arith))

pub listed_is : (a : Around) (key : Target) (value : Option Target) → key ∷ listed_targets a None value ≡ listed_targets a (Some key) value
listed_is a key None = refl
listed_is a key (Some value) = refl
