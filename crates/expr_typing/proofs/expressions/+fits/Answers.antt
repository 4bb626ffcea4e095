use Rattle.std.proofs.Common.{◌≡◌, ◌∙◌, ◌&&◌, ◌||◌, Bool, List, map, sym, ap, subst, rules}
use Rattle.std.specs.Prelude.{IfOk, is_some, not}
use Rattle.std.specs.List.{list_all}
use Rattle.go_tree.specs.declared.exprs.Elements.{Elements}
use Rattle.go_tree.specs.declared.exprs.EntryInit.{EntryInit}
use Rattle.go_tree.specs.declared.exprs.FieldInit.{FieldInit}
use Rattle.go_tree.specs.declared.exprs.ItemInit.{ItemInit}
use Rattle.go_tree.specs.declared.exprs.TypedExpr.{TypedExpr}
use Rattle.go_tree.specs.declared.exprs.Values.{Values}
use Rattle.go_type.specs.Assignable.{underlying_term_of}
use Rattle.go_type.specs.Table.{term_at}
use Rattle.type_shapes.specs.Shapes.{parts_of}
use Rattle.typed_trees.specs.BuiltIns.{fits_built_in}
use Rattle.typed_trees.specs.Expressions.{seen, seen_values}
use Rattle.typed_trees.specs.Nodes.{fits_set_field, fits_sliced, are_distinct}
use Rattle.expr_typing.specs.Parts.{is_struct, has_items, is_text_base, item_fits, entry_fits}
use Rattle.expr_typing.specs.Telling.{at_tests}
use Rattle.expr_typing.specs.Trees.{asks, seen_elements, seen_field, seen_item, seen_entry, typed_as, are_several, part_types}
use Rattle.expr_typing.proofs.Layers.{kind_fits, const_of_fits, slice_of_fits, builtin_of_fits, fields_fit, items_fit, entries_fit, each_fits, spread_fits}
use Rattle.expr_typing.proofs.Turns.{all_turn, all_fails, all_pass}
use Rattle.expr_typing.proofs.expressions.+fits.Goals as goal

pub fits_all-returns-then-not-branch : goal.fits_all-returns-then-not-branch
fits_all-returns-then-not-branch t c = λ told.
    all_fails (λ x. (seen (at_tests c.args.around told.tests) x).fits) c.args.exprs.now c.loop-expr.expr-index c.expr-item.result c.expr-item.result _
    c.loop-expr-test.true c.expr-item.is (c.in_ok-fits.ensures told) c.if-not-branch.true (c.loop-expr.invariant told)

pub fits_all-loop-expr-preserved : goal.fits_all-loop-expr-preserved
fits_all-loop-expr-preserved t c = λ told.
    all_turn (λ x. (seen (at_tests c.args.around told.tests) x).fits) c.args.exprs.now c.loop-expr.expr-index c.expr-item.result c.expr-item.result _
    c.loop-expr-test.true c.expr-item.is (c.in_ok-fits.ensures told) c.if-not-branch.false (c.loop-expr.invariant told)

pub fits_all-returns : goal.fits_all-returns
fits_all-returns t c = λ told.
    all_pass (λ x. (seen (at_tests c.args.around told.tests) x).fits) c.args.exprs.now c.loop-expr.expr-index c.loop-expr-test.false (c.loop-expr.invariant told)

pub fit_parts-returns-then-not-branch : goal.fit_parts-returns-then-not-branch
fit_parts-returns-then-not-branch t c = λ told.
    all_fails (λ x. (seen (at_tests c.args.around told.tests) x).fits_part c.args.types.now) c.args.exprs.now c.loop-expr.expr-index c.expr-item.result c.expr-item.result _
    c.loop-expr-test.true c.expr-item.is (c.in_ok-fits_part_of.ensures told) c.if-not-branch.true (c.loop-expr.invariant told)

pub fit_parts-loop-expr-preserved : goal.fit_parts-loop-expr-preserved
fit_parts-loop-expr-preserved t c = λ told.
    all_turn (λ x. (seen (at_tests c.args.around told.tests) x).fits_part c.args.types.now) c.args.exprs.now c.loop-expr.expr-index c.expr-item.result c.expr-item.result _
    c.loop-expr-test.true c.expr-item.is (c.in_ok-fits_part_of.ensures told) c.if-not-branch.false (c.loop-expr.invariant told)

pub fit_parts-returns : goal.fit_parts-returns
fit_parts-returns t c = λ told.
    all_pass (λ x. (seen (at_tests c.args.around told.tests) x).fits_part c.args.types.now) c.args.exprs.now c.loop-expr.expr-index c.loop-expr-test.false (c.loop-expr.invariant told)

pub fit_fields-returns-then-not-branch : goal.fit_fields-returns-then-not-branch
fit_fields-returns-then-not-branch t c = λ told.
    all_fails (λ x. fits_set_field (asks c.args.asked) (underlying_term_of c.args.around.program.now.types c.args.of) (seen_field (at_tests c.args.around told.tests) x)) c.args.fields.now c.loop-field.field-index c.field-item.result c.field-item.result _
    c.loop-field-test.true c.field-item.is (c.in_ok-fits_in_field.ensures told) c.if-not-branch.true (c.loop-field.invariant told)

pub fit_fields-loop-field-preserved : goal.fit_fields-loop-field-preserved
fit_fields-loop-field-preserved t c = λ told.
    all_turn (λ x. fits_set_field (asks c.args.asked) (underlying_term_of c.args.around.program.now.types c.args.of) (seen_field (at_tests c.args.around told.tests) x)) c.args.fields.now c.loop-field.field-index c.field-item.result c.field-item.result _
    c.loop-field-test.true c.field-item.is (c.in_ok-fits_in_field.ensures told) c.if-not-branch.false (c.loop-field.invariant told)

pub fit_fields-returns : goal.fit_fields-returns
fit_fields-returns t c = λ told.
    all_pass (λ x. fits_set_field (asks c.args.asked) (underlying_term_of c.args.around.program.now.types c.args.of) (seen_field (at_tests c.args.around told.tests) x)) c.args.fields.now c.loop-field.field-index c.loop-field-test.false (c.loop-field.invariant told)

pub fit_items-returns-then-not-branch : goal.fit_items-returns-then-not-branch
fit_items-returns-then-not-branch t c = λ told.
    all_fails (λ x. item_fits (asks c.args.asked) c.args.len c.args.elem (seen_item (at_tests c.args.around told.tests) x)) c.args.items.now c.loop-item.item-index c.item-item.result c.item-item.result _
    c.loop-item-test.true c.item-item.is (c.in_ok-fits_as_item.ensures told) c.if-not-branch.true (c.loop-item.invariant told)

pub fit_items-loop-item-preserved : goal.fit_items-loop-item-preserved
fit_items-loop-item-preserved t c = λ told.
    all_turn (λ x. item_fits (asks c.args.asked) c.args.len c.args.elem (seen_item (at_tests c.args.around told.tests) x)) c.args.items.now c.loop-item.item-index c.item-item.result c.item-item.result _
    c.loop-item-test.true c.item-item.is (c.in_ok-fits_as_item.ensures told) c.if-not-branch.false (c.loop-item.invariant told)

pub fit_items-returns : goal.fit_items-returns
fit_items-returns t c = λ told.
    all_pass (λ x. item_fits (asks c.args.asked) c.args.len c.args.elem (seen_item (at_tests c.args.around told.tests) x)) c.args.items.now c.loop-item.item-index c.loop-item-test.false (c.loop-item.invariant told)

pub fit_entries-returns-then-not-branch : goal.fit_entries-returns-then-not-branch
fit_entries-returns-then-not-branch t c = λ told.
    all_fails (λ x. entry_fits (asks c.args.asked) c.args.key c.args.elem (seen_entry (at_tests c.args.around told.tests) x)) c.args.entries.now c.loop-entry.entry-index c.entry-item.result c.entry-item.result _
    c.loop-entry-test.true c.entry-item.is (c.in_ok-fits_as_entry.ensures told) c.if-not-branch.true (c.loop-entry.invariant told)

pub fit_entries-loop-entry-preserved : goal.fit_entries-loop-entry-preserved
fit_entries-loop-entry-preserved t c = λ told.
    all_turn (λ x. entry_fits (asks c.args.asked) c.args.key c.args.elem (seen_entry (at_tests c.args.around told.tests) x)) c.args.entries.now c.loop-entry.entry-index c.entry-item.result c.entry-item.result _
    c.loop-entry-test.true c.entry-item.is (c.in_ok-fits_as_entry.ensures told) c.if-not-branch.false (c.loop-entry.invariant told)

pub fit_entries-returns : goal.fit_entries-returns
fit_entries-returns t c = λ told.
    all_pass (λ x. entry_fits (asks c.args.asked) c.args.key c.args.elem (seen_entry (at_tests c.args.around told.tests) x)) c.args.entries.now c.loop-entry.entry-index c.loop-entry-test.false (c.loop-entry.invariant told)

pub fits-returns-in-ConstOf : goal.fits-returns-in-ConstOf
fits-returns-in-ConstOf t c = λ told.
    let a = at_tests c.args.around told.tests in
    c.fits_constant.ensures told.tests ∙ sym (kind_fits a c.args.expr.now _ c.in-ConstOf.is ∙ const_of_fits a _ c.args.expr.now.of)

pub fits-returns-in_ok-fits_bound-in-SliceOf-3 : goal.fits-returns-in_ok-fits_bound-in-SliceOf-3
fits-returns-in_ok-fits_bound-in-SliceOf-3 t c = λ told.
    let a = at_tests c.args.around told.tests in
    let x = c.in-SliceOf in
    let of = c.args.expr.now.of in
    let one : c.deref-in-SliceOf.result.now ≡ x.operand.value = search rules in
    let two : c.deref-in-SliceOf-2.result.now ≡ x.operand.value = search rules in
    let some : c.is_some.result ≡ is_some x.max = search rules in
    (λ i. (c.fits_sliced.ensures told.tests ∙ ap (λ (e : TypedExpr). fits_sliced a x.base e.of of) one) i
    && ((c.in_ok-fits-in-SliceOf.ensures told ∙ ap (λ (e : TypedExpr). (seen a e).fits) two) i
    && (c.in_ok-fits_bound-in-SliceOf.ensures told i && (c.in_ok-fits_bound-in-SliceOf-2.ensures told i && (c.in_ok-fits_bound-in-SliceOf-3.ensures told i
    && (c.takes_max.ensures ∙ ap (λ b. not (is_text_base x.base) || not b) some) i)))))
    ∙ sym (kind_fits a c.args.expr.now _ c.in-SliceOf.is ∙ slice_of_fits a x.base x.operand x.low x.high x.max of)

pub fits-returns-in_ok-fits_all-in-BuiltinOf : goal.fits-returns-in_ok-fits_all-in-BuiltinOf
fits-returns-in_ok-fits_all-in-BuiltinOf t c = λ told.
    let a = at_tests c.args.around told.tests in
    let x = c.in-BuiltinOf in
    let of = c.args.expr.now.of in
    (λ i. (c.fits_built_in.ensures told.tests ∙ ap (λ (l : List TypedExpr). fits_built_in a x.builtin x.form x.spread (map typed_as l) of) c.deref-in-BuiltinOf.ensures.value) i
    && (c.in_ok-fits_all-in-BuiltinOf.ensures told ∙ ap (list_all (λ (e : TypedExpr). (seen a e).fits)) c.deref-in-BuiltinOf-2.ensures.value) i)
    ∙ sym (kind_fits a c.args.expr.now _ c.in-BuiltinOf.is ∙ builtin_of_fits a x.builtin x.form x.arguments x.spread of)

pub fits_elements-returns-in_ok-are_fields-in-Fields : goal.fits_elements-returns-in_ok-are_fields-in-Fields
fits_elements-returns-in_ok-are_fields-in-Fields t c = λ told.
    let a = at_tests c.args.around told.tests in
    let of = c.args.of in
    let under = underlying_term_of c.args.around.program.now.types of in
    (λ i. (c.in_ok-fit_fields-in-Fields.ensures told ∙ ap (list_all (λ (x : FieldInit). fits_set_field (asks c.args.asked) under (seen_field a x))) c.deref.ensures.value) i
    && (c.in_ok-are_fields-in-Fields.ensures ∙ ap (λ (l : List FieldInit). is_struct under && are_distinct (map (λ (x : FieldInit). x.field) l)) c.deref-in-Fields.ensures.value) i)
    ∙ sym (ap (λ (e : Elements). (seen_elements a e).fit (asks c.args.asked) of) c.in-Fields.is ∙ fields_fit a c.in-Fields.fields (asks c.args.asked) of)

pub fits_elements-returns-in_ok-are_items-in-Items : goal.fits_elements-returns-in_ok-are_items-in-Items
fits_elements-returns-in_ok-are_items-in-Items t c = λ told.
    let a = at_tests c.args.around told.tests in
    let of = c.args.of in
    let len = c.in-Items.len in
    let under = underlying_term_of c.args.around.program.now.types of in
    (λ i. (c.in_ok-fit_items-in-Items.ensures told ∙ (λ j. list_all (λ (x : ItemInit). item_fits (asks c.args.asked) len (c.item_type.ensures j) (seen_item a x)) (c.deref-in-Items.ensures.value j))) i
    && (c.in_ok-are_items-in-Items.ensures ∙ ap (λ (l : List ItemInit). has_items under len && are_distinct (map (λ (x : ItemInit). x.index) l)) c.deref-in-Items-2.ensures.value) i)
    ∙ sym (ap (λ (e : Elements). (seen_elements a e).fit (asks c.args.asked) of) c.in-Items.is ∙ items_fit a c.in-Items.items len (asks c.args.asked) of)

pub fits_elements-returns-in_ok-fit_entries-in-Entries : goal.fits_elements-returns-in_ok-fit_entries-in-Entries
fits_elements-returns-in_ok-fit_entries-in-Entries t c = λ told.
    let a = at_tests c.args.around told.tests in
    let of = c.args.of in
    (λ i. (c.in_ok-fit_entries-in-Entries.ensures told
    ∙ (λ j. list_all (λ (x : EntryInit). entry_fits (asks c.args.asked) (c.key_type.ensures j) (c.value_type.ensures j) (seen_entry a x)) (c.deref-in-Entries.ensures.value j))) i
    && c.is_map.ensures i)
    ∙ sym (ap (λ (e : Elements). (seen_elements a e).fit (asks c.args.asked) of) c.in-Entries.is ∙ entries_fit a c.in-Entries.entries (asks c.args.asked) of)

pub fits_values-returns-in-Each : goal.fits_values-returns-in-Each
fits_values-returns-in-Each t c = λ told.
    let a = at_tests c.args.around told.tests in
    let same : list_all (λ (x : TypedExpr). (seen a x).fits) c.deref.result.now ≡ (seen_values a c.args.values.now).fits =
    ap (list_all (λ (x : TypedExpr). (seen a x).fits)) c.deref.ensures.value
    ∙ sym (ap (λ (v : Values). (seen_values a v).fits) c.in-Each.is ∙ each_fits a c.in-Each.exprs) in
    subst (λ (b : Bool). IfOk c.fits_all.result (λ r. r ≡ b)) same (c.fits_all.ensures told)

pub fits_values-returns-in_ok-fit_parts-in-Spread : goal.fits_values-returns-in_ok-fit_parts-in-Spread
fits_values-returns-in_ok-fit_parts-in-Spread t c = λ told.
    let a = at_tests c.args.around told.tests in
    let types = c.args.around.program.now.types in
    let tuple = c.in-Spread.tuple in
    let one : c.deref-in-Spread.result.now ≡ tuple.value = search rules in
    let two : c.deref-in-Spread-2.result.now ≡ tuple.value = search rules in
    let four : c.deref-in-Spread-4.result.now ≡ tuple.value = search rules in
    (λ i. (c.in_ok-fits-in-Spread.ensures told ∙ ap (λ (x : TypedExpr). (seen a x).fits) one) i
    && ((c.are_several.ensures ∙ ap (λ (x : TypedExpr). are_several (parts_of (term_at types x.of))) two) i
    && (c.in_ok-fit_parts-in-Spread.ensures told
    ∙ (λ j. list_all (λ (x : TypedExpr). (seen a x).fits_part ((c.part_types.ensures ∙ ap (λ (y : TypedExpr). part_types (parts_of (term_at types y.of))) four) j)) (c.deref-in-Spread-3.ensures.value j))) i))
    ∙ sym (ap (λ (v : Values). (seen_values a v).fits) c.in-Spread.is ∙ spread_fits a tuple c.in-Spread.exprs)
