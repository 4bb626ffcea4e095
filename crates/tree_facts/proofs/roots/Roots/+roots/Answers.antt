use Rattle.std.proofs.Common.{◌≡◌, ap, sym, ◌∙◌}
use Rattle.tree_facts.specs.Roots.{taken, taken_field, taken_item, taken_entry}
use Rattle.tree_facts.specs.Search.{searched}
use Rattle.tree_facts.proofs.Forms.{field_is, item_is, entry_is}
use Rattle.tree_facts.proofs.Searching.{turn, searched_twice}
use Rattle.tree_facts.proofs.roots.Roots.+roots.Goals as goal

pub in_list-loop-expr-preserved : goal.in_list-loop-expr-preserved
in_list-loop-expr-preserved t c = turn taken c.args.self.now c.loop-expr.self c.in_expr.new.self c.args.exprs.now c.loop-expr.expr-index _ c.expr-item.result c.loop-expr-test.true c.loop-expr.invariant c.expr-item.is c.in_ok-in_expr.ensures.ok

pub in_fields-loop-field-preserved : goal.in_fields-loop-field-preserved
in_fields-loop-field-preserved t c = turn taken_field c.args.self.now c.loop-field.self c.in_expr.new.self c.args.fields.now c.loop-field.field-index _ c.field-item.result c.loop-field-test.true c.loop-field.invariant c.field-item.is (c.in_ok-in_expr.ensures.ok ∙ ap (searched c.loop-field.self) (sym (field_is c.field-item.result)))

pub in_items-loop-item-preserved : goal.in_items-loop-item-preserved
in_items-loop-item-preserved t c = turn taken_item c.args.self.now c.loop-item.self c.in_expr.new.self c.args.items.now c.loop-item.item-index _ c.item-item.result c.loop-item-test.true c.loop-item.invariant c.item-item.is (c.in_ok-in_expr.ensures.ok ∙ ap (searched c.loop-item.self) (sym (item_is c.item-item.result)))

pub in_entries-loop-entry-preserved : goal.in_entries-loop-entry-preserved
in_entries-loop-entry-preserved t c =
    let entry = c.entry-item.result in
    let behind : c.in_expr-in-loop-entry.new.self ≡ searched c.loop-entry.self (taken_entry entry) =
    c.in_ok-in_expr-2.ensures.ok ∙ ap (λ s. searched s (taken entry.value)) c.in_ok-in_expr.ensures.ok
    ∙ searched_twice c.loop-entry.self (taken entry.key) (taken entry.value) ∙ ap (searched c.loop-entry.self) (sym (entry_is entry)) in
    turn taken_entry c.args.self.now c.loop-entry.self c.in_expr-in-loop-entry.new.self c.args.entries.now c.loop-entry.entry-index _ entry c.loop-entry-test.true c.loop-entry.invariant c.entry-item.is behind
