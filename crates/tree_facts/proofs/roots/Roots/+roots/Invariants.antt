use Rattle.std.proofs.Common.{◌≡◌, take}
use Rattle.std.specs.Prelude.{flat_map}
use Rattle.tree_facts.specs.Roots.{taken_each, taken_field, taken_item, taken_entry}
use Rattle.tree_facts.specs.Search.{searched}
use Rattle.tree_facts.proofs.roots.Roots.+roots.Given as goal

abbrev pub invariant-in_list-loop-expr : goal.invariant-in_list-loop-expr
invariant-in_list-loop-expr l = l.self ≡ searched l.fn.self (taken_each (take l.expr-index l.exprs))

abbrev pub invariant-in_fields-loop-field : goal.invariant-in_fields-loop-field
invariant-in_fields-loop-field l = l.self ≡ searched l.fn.self (flat_map taken_field (take l.field-index l.fields))

abbrev pub invariant-in_items-loop-item : goal.invariant-in_items-loop-item
invariant-in_items-loop-item l = l.self ≡ searched l.fn.self (flat_map taken_item (take l.item-index l.items))

abbrev pub invariant-in_entries-loop-entry : goal.invariant-in_entries-loop-entry
invariant-in_entries-loop-entry l = l.self ≡ searched l.fn.self (flat_map taken_entry (take l.entry-index l.entries))
