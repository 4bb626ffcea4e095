-- Types that are identical but for tags are so by as many steps as types are held.
use Rattle.std.proofs.Common.{◌≡◌, ℕ, zero, suc, ◌<◌, ◌≤◌, ◌==◌, Bool, true, false, true≢false, ◌&&◌, ◌||◌, List, [], ◌∷◌, map, length, Option, Some, None, option_map, IsTrue, refl, sym, ap, ◌∙◌, arith, ◌↔◌}
use Rattle.std.specs.Bool.{beq}
use Rattle.std.specs.Cmp.Lexicographic.{pointwise}
use Rattle.go_base.specs.declared.ids.TypeId.{TypeId}
use Rattle.go_type.specs.declared.term.Field.{Field}
use Rattle.go_type.specs.declared.term.TypeTerm.{TypeTerm}
use Rattle.go_type.specs.Held.{IsHeld}
use Rattle.go_type.specs.Identity.{like_field, like_term, alike}
use Rattle.go_type.specs.Same.{same_id}
use Rattle.go_type.specs.Table.{Table, term_at}
use Rattle.go_type.proofs.Held.{inside}
use Rattle.type_bare.specs.Same.{untagged_field, untagged, untagged_at, same_to, SameButTags}
use Rattle.type_bare.proofs.Known.{below, is_below, parts_below}
use Rattle.type_bare.proofs.Telling.{untagged_gives}
use Rattle.expr_typing.specs.Alike.{like_bare_field}

and_true : (b : Bool) → b && true ≡ b
and_true true = refl
and_true false = refl

pub bare_field : (R : TypeId → TypeId → Bool) (a b : Field) → like_field R (untagged_field a) (untagged_field b) ≡ like_bare_field R a b
bare_field R a b = λ i. (a.name.number == b.name.number) && ((a.package == b.package) && (R a.of b.of && and_true (beq a.embedded b.embedded) i))

pub bare_fields : (R : TypeId → TypeId → Bool) (xs ys : List Field) → pointwise (like_field R) (map untagged_field xs) (map untagged_field ys) ≡ pointwise (like_bare_field R) xs ys
bare_fields R [] [] = refl
bare_fields R [] (y ∷ ys) = refl
bare_fields R (x ∷ xs) [] = refl
bare_fields R (x ∷ xs) (y ∷ ys) = λ i. bare_field R x y i && bare_fields R xs ys i

never : {P : Type 0} → false ≡ true → P
never h = absurd (true≢false (sym h))

or_right : (b c : Bool) → c ≡ true → b || c ≡ true
or_right true c h = refl
or_right false c h = h

-- the first, or by the second
either_true : (b c d : Bool) → b || c ≡ true → (c ≡ true → d ≡ true) → b || d ≡ true
either_true true c d h f = refl
either_true false c d h f = f h

module _ (types : Table) (held : IsHeld types) where
  terms_alike : (R S : TypeId → TypeId → Bool) (n : ℕ) → ((x y : TypeId) → x.number < n → y.number < n → R x y ≡ true → S x y ≡ true)
      → (a b : TypeId) → a.number ≤ n → b.number ≤ n → (s t : Option TypeTerm) → term_at types a ≡ s → term_at types b ≡ t
      → alike R (option_map untagged s) (option_map untagged t) ≡ true → alike S (option_map untagged s) (option_map untagged t) ≡ true
  terms_alike R S n gives a b la lb (Some s) (Some t) es et h =
      untagged_gives (below n) R S (λ x y px py r. gives x y (is_below n x px) (is_below n y py) r) s t
      (parts_below a.number n s la (held.stands a s es).parts) (parts_below b.number n t lb (held.stands b t et).parts) h
  terms_alike R S n gives a b la lb (Some s) None es et h = never h
  terms_alike R S n gives a b la lb None t es et h = never h

  -- by more steps than both numbers
  within : (k n : ℕ) (a b : TypeId) → a.number < k → b.number < k → same_to n types a b ≡ true → same_to k types a b ≡ true
  within zero n a b la lb h = absurd (omega arith)
  within (suc k) zero a b la lb h = ap (λ s. s || alike (same_to k types) (untagged_at types a) (untagged_at types b)) h
  within (suc k) (suc n) a b la lb h =
      either_true (same_id a b) (alike (same_to n types) (untagged_at types a) (untagged_at types b)) (alike (same_to k types) (untagged_at types a) (untagged_at types b)) h
      (terms_alike (same_to n types) (same_to k types) k (λ x y lx ly r. within k n x y lx ly r) a b (omega arith) (omega arith) (term_at types a) (term_at types b) refl refl)

  held_both : (R : TypeId → TypeId → Bool) (a b : TypeId) (s t : Option TypeTerm) → term_at types a ≡ s → term_at types b ≡ t
      → alike R (option_map untagged s) (option_map untagged t) ≡ true → (a.number < length types.terms) × (b.number < length types.terms)
  held_both R a b (Some s) (Some t) es et h = (inside types.terms a.number s es, inside types.terms b.number t et)
  held_both R a b (Some s) None es et h = never h
  held_both R a b None t es et h = never h

  by_id : (k : ℕ) (a b : TypeId) → same_id a b ≡ true → same_to k types a b ≡ true
  by_id zero a b h = h
  by_id (suc k) a b h = ap (λ s. s || alike (same_to k types) (untagged_at types a) (untagged_at types b)) h

  enough : (n : ℕ) (a b : TypeId) → same_to n types a b ≡ true → same_to (length types.terms) types a b ≡ true
  enough zero a b h = by_id (length types.terms) a b h
  enough (suc n) a b h = by (same_id a b) refl
    where
      by : (s : Bool) → same_id a b ≡ s → same_to (length types.terms) types a b ≡ true
      by true e = by_id (length types.terms) a b e
      by false e =
          let terms : alike (same_to n types) (untagged_at types a) (untagged_at types b) ≡ true =
          sym (ap (λ s. s || alike (same_to n types) (untagged_at types a) (untagged_at types b)) e) ∙ h in
          let both = held_both (same_to n types) a b (term_at types a) (term_at types b) refl refl terms in
          within (length types.terms) (suc n) a b both.0 both.1 h

  pub same_answer : (a b : TypeId) (r : Bool) → r ≡ same_to (length types.terms) types a b → IsTrue r ↔ SameButTags types a b
  same_answer a b r e = (λ h. (length types.terms, sym e ∙ h), λ k. e ∙ enough k.0 a b k.1)

-- by one step more than the terms of two types that are not one
pub same_deeper : (types : Table) (a b : TypeId) (s t : TypeTerm) (depth less : ℕ) (r : Bool) → depth ≡ suc less → same_id a b ≡ false → Some s ≡ term_at types a → Some t ≡ term_at types b
    → r ≡ like_term (same_to less types) (untagged s) (untagged t) → r ≡ same_to depth types a b
same_deeper types a b s t depth less r deep apart hs ht e =
    e ∙ ((λ i. alike (same_to less types) (option_map untagged (hs i)) (option_map untagged (ht i)))
    ∙ (sym (ap (λ c. c || alike (same_to less types) (untagged_at types a) (untagged_at types b)) apart)
    ∙ sym (ap (λ d. same_to d types a b) deep)))
