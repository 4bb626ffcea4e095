use Rattle.std.proofs.Common.{◌≡◌, ℕ, List, true, Some, slice_get, sym, ◌∙◌, ap}
use Rattle.std.specs.List.{list_any, position_or_len}
use Rattle.go_type.specs.declared.term.TypeTerm.{TypeTerm}
use Rattle.go_type.specs.Table.{same_term}
use Rattle.go_type.proofs.Places.{found_place, at_place}
use Rattle.go_type.proofs.SameTerm.{same_term_is}
use Rattle.go_type.proofs.types.Types.find.Goals as goal

is_there : (term : TypeTerm) (terms : List TypeTerm) (i : ℕ) → i ≡ position_or_len (same_term term) terms → true ≡ list_any (same_term term) terms → slice_get terms i ≡ Some term
is_there term terms i at there = ap (slice_get terms) at ∙ at_place same_term term (same_term_is term) terms (sym there)

pub returns-in-Some-clause-named : goal.returns-in-Some-clause-named
returns-in-Some-clause-named c =
    let at = found_place (same_term c.args.term.now) c.self.inside.terms.keys c.in-Some.index c.in-Some.ensures.index in
    rw (← c.self.view_is) (is_there c.args.term.now c.self.inside.terms.keys c.in-Some.index at c.in-Some.ensures.found)
