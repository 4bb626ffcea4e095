use Rattle.std.proofs.Common.{◌≡◌, ℕ, List, length, false, true, Some, slice_get, Result, Ok, Err, IfOk, OnOk, sym, subst, ◌∙◌, ap}
use Rattle.std.specs.List.{list_any, position_or_len}
use Rattle.go_base.specs.declared.ids.TypeId.{TypeId}
use Rattle.go_base.specs.declared.memory.NoMemory.{NoMemory}
use Rattle.go_type.specs.declared.term.TypeTerm.{TypeTerm}
use Rattle.go_type.specs.Table.{Table, same_term, place_of, with_next, term_at}
use Rattle.go_type.proofs.Places.{found_place, absent_place, at_place, last_place}
use Rattle.go_type.proofs.Held.{fields_fit, parts_below, methods_ordered}
use Rattle.go_type.proofs.SameTerm.{same_term_is}
use Rattle.go_type.proofs.types.Types.hold.Goals as goal

is_there : (term : TypeTerm) (terms : List TypeTerm) (i : ℕ) → i ≡ position_or_len (same_term term) terms → true ≡ list_any (same_term term) terms → slice_get terms i ≡ Some term
is_there term terms i at there = ap (slice_get terms) at ∙ at_place same_term term (same_term_is term) terms (sym there)

pub returns-in-Some-clause-named : goal.returns-in-Some-clause-named
returns-in-Some-clause-named c =
    let at = found_place (same_term c.args.term) c.self.inside.terms.keys c.in-Some.index c.in-Some.ensures.index in
    rw (← c.self.view_is) (is_there c.args.term c.self.inside.terms.keys c.in-Some.index at c.in-Some.ensures.found)

next_place : (r : Result TypeId NoMemory) (term : TypeTerm) (old : Table) → false ≡ list_any (same_term term) old.terms
    → IfOk r (λ id. id.number ≡ length old.terms) → IfOk r (λ id. id.number ≡ place_of term old)
next_place (Ok id) term old none at = at ∙ sym (absent_place (same_term term) old.terms (sym none))
next_place (Err e) term old none at = at

next_term : (r : Result TypeId NoMemory) (term : TypeTerm) (old new : Table)
    → IfOk r (λ id. id.number ≡ length old.terms) → OnOk r (new ≡ with_next term old) → IfOk r (λ id. term_at new id ≡ Some term)
next_term (Ok id) term old new at is = ap (λ t. slice_get t.terms id.number) is ∙ ap (slice_get (with_next term old).terms) at ∙ last_place old.terms term
next_term (Err e) term old new at is = at

pub returns-clause-ok : goal.returns-clause-ok
returns-clause-ok c =
    let none = subst (λ (t : Table). false ≡ list_any (same_term c.args.term) t.terms) c.self.view_is c.in_default.ensures.found in
    next_place c.add.result c.args.term c.args.self.now none c.add.ensures.ok

pub returns-clause-named : goal.returns-clause-named
returns-clause-named c = next_term c.add.result c.args.term c.args.self.now c.add.new.self c.add.ensures.ok c.add.ensures.held

pub add-requires-clause-fields : goal.add-requires-clause-fields
add-requires-clause-fields c = fields_fit c.args.self.now c.args.term c.requires

pub add-requires-clause-parts : goal.add-requires-clause-parts
add-requires-clause-parts c = parts_below c.args.self.now c.args.term c.requires

pub add-requires-clause-ordered : goal.add-requires-clause-ordered
add-requires-clause-ordered c = methods_ordered c.args.self.now c.args.term c.requires
