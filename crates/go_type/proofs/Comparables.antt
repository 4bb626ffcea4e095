-- Whether a type is comparable shows in as many steps as there are types.
use Rattle.std.proofs.Common.{◌≡◌, ℕ, zero, suc, ◌≤◌, Bool, true, false, true≢false, not, ◌||◌, List, [], ◌∷◌, length, Option, Some, None, slice_get, unwrap_or, IsTrue, ◌↔◌, refl, sym, ap, ◌∙◌, arith}
use Rattle.std.specs.List.{list_any}
use Rattle.go_base.specs.declared.ids.TypeId.{TypeId}
use Rattle.go_type.specs.declared.term.Basic.{Basic}
use Rattle.go_type.specs.declared.term.Basic.TheVariants as basic
use Rattle.go_type.specs.declared.term.Field.{Field}
use Rattle.go_type.specs.declared.term.TypeTerm.{TypeTerm}
use Rattle.go_type.specs.declared.term.TypeTerm.TheVariants.{Basic as Plain, Array, Struct}
use Rattle.go_type.specs.Table.{Table, term_at, underlying_of, definition_at, no_definition}
use Rattle.go_type.specs.declared.types.Definition.{Definition}
use Rattle.go_type.specs.Comparable.{incomparable_term, incomparable_to, Comparable}
use Rattle.go_type.proofs.Saturate.{Property, Within, steps, shows_in_bound, never_shows}

abbrev next : Table → Property → Property
next types p x = incomparable_term p (term_at types (underlying_of types x))

or_right : (b c : Bool) → c ≡ true → b || c ≡ true
or_right true c k = refl
or_right false c k = k

any_within : (p q : Property) → Within p q → (fields : List Field) → list_any (λ field. p field.of) fields ≡ true → list_any (λ field. q field.of) fields ≡ true
any_within p q h [] e = e
any_within p q h (field ∷ fields) e = by (p field.of) (h field.of) (any_within p q h fields) e
  where
    by : (b : Bool) → (b ≡ true → q field.of ≡ true) → (list_any (λ f. p f.of) fields ≡ true → list_any (λ f. q f.of) fields ≡ true)
        → b || list_any (λ f. p f.of) fields ≡ true → q field.of || list_any (λ f. q f.of) fields ≡ true
    by true here rest k = ap (λ b. b || list_any (λ f. q f.of) fields) (here refl)
    by false here rest k = or_right (q field.of) _ (rest k)

plain_same : (p q : Property) (kind : Basic) → incomparable_term p (Some (Plain kind)) ≡ incomparable_term q (Some (Plain kind))
plain_same p q basic.UntypedNil = refl
plain_same p q _ = refl

term_within : (p q : Property) → Within p q → (t : Option TypeTerm) → incomparable_term p t ≡ true → incomparable_term q t ≡ true
term_within p q h (Some (Array len elem)) e = h elem e
term_within p q h (Some (Struct fields)) e = any_within p q h fields e
term_within p q h (Some (Plain kind)) e = sym (plain_same p q kind) ∙ e
term_within p q h _ e = e

-- a type that is not held is no slice, map or function
past : {X : Type 0} (xs : List X) (i : ℕ) → length xs ≤ i → slice_get xs i ≡ None
past [] i h = refl
past (x ∷ xs) zero h = absurd (omega arith)
past (x ∷ xs) (suc i) h = let k : length xs ≤ i = omega arith in past xs i k

module _ (types : Table) (counts : length types.definitions ≡ length types.terms) where
  pub undefined : (x : TypeId) → length types.terms ≤ x.number → definition_at types x ≡ no_definition
  undefined x h =
      let beyond : length types.definitions ≤ x.number = omega arith in
      ap (λ d. unwrap_or d no_definition) (past types.definitions x.number beyond)

  pub termless : (x : TypeId) → length types.terms ≤ x.number → term_at types (underlying_of types x) ≡ None
  termless x h =
      let self : underlying_of types x ≡ x = ap (λ (d : Definition). unwrap_or d.underlying x) (undefined x h) in
      ap (term_at types) self ∙ past types.terms x.number h

  inside : (p : Property) (x : TypeId) → length types.terms ≤ x.number → next types p x ≡ true → ⊥
  inside p x h e = true≢false (sym e ∙ ap (incomparable_term p) (termless x h))

  mono : (p q : Property) → Within p q → Within (next types p) (next types q)
  mono p q h x e = term_within p q h (term_at types (underlying_of types x)) e

  same_steps : (n : ℕ) → steps (next types) mono (length types.terms) inside n ≡ (λ id. incomparable_to n types id)
  same_steps zero = refl
  same_steps (suc n) = ap (next types) (same_steps n)

  -- what is not comparable shows so in as many steps as there are types
  pub comparable_in_bound : (n : ℕ) (x : TypeId) → incomparable_to n types x ≡ true → incomparable_to (length types.terms) types x ≡ true
  comparable_in_bound n x h =
      sym (ap (λ p. p x) (same_steps (length types.terms))) ∙ shows_in_bound (next types) mono (length types.terms) inside n x (ap (λ p. p x) (same_steps n) ∙ h)

  pub comparable_iff : (a : TypeId) (r : Bool) → r ≡ incomparable_to (length types.terms) types a → IsTrue (not r) ↔ Comparable types a
  comparable_iff a r e = (
    λ h n.
        let none : steps (next types) mono (length types.terms) inside (length types.terms) a ≡ false =
        ap (λ p. p a) (same_steps (length types.terms)) ∙ sym e ∙ not_true r h in
        sym (ap (λ p. p a) (same_steps n)) ∙ never_shows (next types) mono (length types.terms) inside a none n,
    λ all. ap not (e ∙ all (length types.terms)),
  )
    where
      not_true : (b : Bool) → not b ≡ true → b ≡ false
      not_true true h = sym h
      not_true false h = refl
