-- Whether a type reaches another shows in as many steps as there are types.
use Rattle.std.proofs.Common.{◌≡◌, ℕ, zero, suc, ◌≤◌, Bool, true, false, true≢false, not, ◌||◌, ◌&&◌, List, [], ◌∷◌, length, Option, Some, IsTrue, ◌↔◌, refl, sym, ap, ◌∙◌}
use Rattle.std.specs.List.{list_any}
use Rattle.go_base.specs.declared.ids.TypeId.{TypeId}
use Rattle.go_type.specs.declared.term.Field.{Field}
use Rattle.go_type.specs.declared.term.TypeTerm.{TypeTerm}
use Rattle.go_type.specs.declared.term.TypeTerm.TheVariants.{Array, Struct}
use Rattle.go_type.specs.Same.{same_id, both, each}
use Rattle.go_type.specs.Table.{Table, term_at, underlying_of}
use Rattle.go_type.specs.Conditions.{has_inline, reaches_to, is_definable, CanDefine}
use Rattle.go_type.proofs.Comparables.{termless}
use Rattle.go_type.proofs.Saturate.{Property, Within, steps, shows_in_bound, never_shows}

module _ (types : Table) (id : TypeId) where
  abbrev next : Property → Property
  next p x = has_inline id p (term_at types (underlying_of types x))

  or_within : (a b c : Bool) → (b ≡ true → c ≡ true) → a || b ≡ true → a || c ≡ true
  or_within true b c h e = refl
  or_within false b c h e = h e

  any_within : (p q : Property) → Within p q → (fields : List Field) → list_any (λ field. same_id id field.of || p field.of) fields ≡ true
      → list_any (λ field. same_id id field.of || q field.of) fields ≡ true
  any_within p q h [] e = e
  any_within p q h (field ∷ fields) e =
      by (same_id id field.of || p field.of) (or_within (same_id id field.of) (p field.of) (q field.of) (h field.of)) (any_within p q h fields) e
    where
      right : (b c : Bool) → c ≡ true → b || c ≡ true
      right true c k = refl
      right false c k = k

      by : (b : Bool) → (b ≡ true → same_id id field.of || q field.of ≡ true)
          → (list_any (λ f. same_id id f.of || p f.of) fields ≡ true → list_any (λ f. same_id id f.of || q f.of) fields ≡ true)
          → b || list_any (λ f. same_id id f.of || p f.of) fields ≡ true → (same_id id field.of || q field.of) || list_any (λ f. same_id id f.of || q f.of) fields ≡ true
      by true here rest k = ap (λ b. b || list_any (λ f. same_id id f.of || q f.of) fields) (here refl)
      by false here rest k = right (same_id id field.of || q field.of) _ (rest k)

  term_within : (p q : Property) → Within p q → (t : Option TypeTerm) → has_inline id p t ≡ true → has_inline id q t ≡ true
  term_within p q h (Some (Array len elem)) e = or_within (same_id id elem) (p elem) (q elem) (h elem) e
  term_within p q h (Some (Struct fields)) e = any_within p q h fields e
  term_within p q h _ e = e

  mono : (p q : Property) → Within p q → Within (next p) (next q)
  mono p q h x e = term_within p q h (term_at types (underlying_of types x)) e

module _ (types : Table) (counts : length types.definitions ≡ length types.terms) (id : TypeId) where
  inside : (p : Property) (x : TypeId) → length types.terms ≤ x.number → next types id p x ≡ true → ⊥
  inside p x h e = true≢false (sym e ∙ ap (has_inline id p) (termless types counts x h))

  same_steps : (n : ℕ) → steps (next types id) (mono types id) (length types.terms) inside n ≡ (λ from. reaches_to n types id from)
  same_steps zero = refl
  same_steps (suc n) = ap (next types id) (same_steps n)

  never_reaches : (from : TypeId) → reaches_to (length types.terms) types id from ≡ false → (n : ℕ) → reaches_to n types id from ≡ false
  never_reaches from none n =
      sym (ap (λ p. p from) (same_steps n)) ∙ never_shows (next types id) (mono types id) (length types.terms) inside from (ap (λ p. p from) (same_steps (length types.terms)) ∙ none) n

  -- what a type reaches it reaches in as many steps as there are types
  pub reaches_in_bound : (n : ℕ) (x : TypeId) → reaches_to n types id x ≡ true → reaches_to (length types.terms) types id x ≡ true
  reaches_in_bound n x h =
      sym (ap (λ p. p x) (same_steps (length types.terms))) ∙ shows_in_bound (next types id) (mono types id) (length types.terms) inside n x (ap (λ p. p x) (same_steps n) ∙ h)

  pub definable_iff : (from : TypeId) (first reached r : Bool) → first ≡ is_definable types id from → reached ≡ reaches_to (length types.terms) types id from
      → r ≡ first && not reached → IsTrue r ↔ CanDefine types id from
  definable_iff from first reached r is_first is_reached is = (
    λ h.
        let parts = both first (not reached) (sym is ∙ h) in
        (sym is_first ∙ parts.0, never_reaches from (sym is_reached ∙ not_true reached parts.1)),
    λ k. is ∙ each first (not reached) (is_first ∙ k.0) (ap not (is_reached ∙ k.1 (length types.terms))),
  )
    where
      not_true : (b : Bool) → not b ≡ true → b ≡ false
      not_true true h = sym h
      not_true false h = refl
