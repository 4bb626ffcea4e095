use Rattle.std.proofs.Common.{◌≡◌, drop}
use Rattle.std.specs.List.{list_all}
use Rattle.go_type.specs.Assignable.{underlying_term_of}
use Rattle.typed_trees.specs.Expressions.{seen}
use Rattle.typed_trees.specs.Nodes.{fits_set_field}
use Rattle.expr_typing.specs.Parts.{item_fits, entry_fits}
use Rattle.expr_typing.specs.Telling.{Told, at_tests}
use Rattle.expr_typing.specs.Trees.{asks, seen_field, seen_item, seen_entry}
use Rattle.expr_typing.proofs.expressions.+fits.Given as goal

abbrev pub invariant-fits_all-loop-expr : goal.invariant-fits_all-loop-expr
invariant-fits_all-loop-expr l = (told : Told l.around.program.now.types)
    → list_all (λ x. (seen (at_tests l.around told.tests) x).fits) l.exprs
    ≡ list_all (λ x. (seen (at_tests l.around told.tests) x).fits) (drop l.expr-index l.exprs)

abbrev pub invariant-fit_parts-loop-expr : goal.invariant-fit_parts-loop-expr
invariant-fit_parts-loop-expr l = (told : Told l.around.program.now.types)
    → list_all (λ x. (seen (at_tests l.around told.tests) x).fits_part l.types) l.exprs
    ≡ list_all (λ x. (seen (at_tests l.around told.tests) x).fits_part l.types) (drop l.expr-index l.exprs)

abbrev pub invariant-fit_fields-loop-field : goal.invariant-fit_fields-loop-field
invariant-fit_fields-loop-field l = (told : Told l.around.program.now.types)
    → list_all (λ x. fits_set_field (asks l.asked) (underlying_term_of l.around.program.now.types l.of) (seen_field (at_tests l.around told.tests) x)) l.fields
    ≡ list_all (λ x. fits_set_field (asks l.asked) (underlying_term_of l.around.program.now.types l.of) (seen_field (at_tests l.around told.tests) x)) (drop l.field-index l.fields)

abbrev pub invariant-fit_items-loop-item : goal.invariant-fit_items-loop-item
invariant-fit_items-loop-item l = (told : Told l.around.program.now.types)
    → list_all (λ x. item_fits (asks l.asked) l.len l.elem (seen_item (at_tests l.around told.tests) x)) l.items
    ≡ list_all (λ x. item_fits (asks l.asked) l.len l.elem (seen_item (at_tests l.around told.tests) x)) (drop l.item-index l.items)

abbrev pub invariant-fit_entries-loop-entry : goal.invariant-fit_entries-loop-entry
invariant-fit_entries-loop-entry l = (told : Told l.around.program.now.types)
    → list_all (λ x. entry_fits (asks l.asked) l.key l.elem (seen_entry (at_tests l.around told.tests) x)) l.entries
    ≡ list_all (λ x. entry_fits (asks l.asked) l.key l.elem (seen_entry (at_tests l.around told.tests) x)) (drop l.entry-index l.entries)
