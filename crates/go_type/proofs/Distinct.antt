-- Terms that are held once each.
use Rattle.std.proofs.Common.{◌≡◌, ℕ, ◌+◌, ◌<◌, false, List, [], ◌∷◌, ◌++◌, length, take, if◌then◌else◌, sym, ap, ◌∙◌, arith}
use Rattle.std.specs.List.{list_any, IsDistinct}
use Rattle.std.specs.Cmp.{IsEquivalence, decided}
use Rattle.std.proofs.Math.ListN.{get_or}
use Rattle.std.proofs.lemmas.Grind.{take_at_read}
use Rattle.std.proofs.lemmas.List.{length-take, get_or-take, get_or_default}
use Rattle.std.proofs.lemmas.List.Folds.{list_any_none}
use Rattle.std.proofs.lemmas.Map.Keys.{apart_from_distinct}
use Rattle.go_type.specs.declared.term.TypeTerm.{TypeTerm}
use Rattle.go_type.specs.Table.{same_term}
use Rattle.go_type.proofs.SameTerm.{same_term-Decides}

pub same_term_equiv : IsEquivalence same_term
same_term_equiv = decided same_term same_term-Decides

-- no term stands twice
absent_before : (terms : List TypeTerm) (i : ℕ) (d : TypeTerm) → IsDistinct same_term terms → i < length terms
    → list_any (same_term (get_or terms i d)) (take i terms) ≡ false
absent_before terms i d distinct h = list_any_none (same_term (get_or terms i d)) (take i terms) (λ k e below.
    let less : k < i = omega (arith, length-take i terms) in
    ap (same_term (get_or terms i d)) (get_or-take i terms k e less) ∙ same_term_equiv.symm (get_or terms i d) (get_or terms k e) ∙ ap (λ x. same_term x (get_or terms i d)) (get_or_default terms k e d (omega arith))
    ∙ apart_from_distinct same_term terms k i d distinct less h)

-- so each goes behind those before it
pub inserted_next : (terms copy next : List TypeTerm) (i : ℕ) (d term : TypeTerm) → IsDistinct same_term terms → i < length terms
    → copy ≡ take i terms → term ≡ get_or terms i d
    → next ≡ (if list_any (same_term term) copy then copy else copy ++ term ∷ []) → next ≡ take (i + 1) terms
inserted_next terms copy next i d term distinct h before is e =
    let absent : list_any (same_term term) copy ≡ false = (λ j. list_any (same_term (is j)) (before j)) ∙ absent_before terms i d distinct h in
    e ∙ ap (λ b. if b then copy else copy ++ term ∷ []) absent ∙ (λ j. before j ++ is j ∷ []) ∙ sym (take_at_read terms i d h).1
