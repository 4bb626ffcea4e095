use Rattle.std.proofs.Common.{◌≡◌, drop, map, ◌++◌}
use Rattle.std.specs.Prelude.{flat_map}
use Rattle.cg_nodes.specs.Uses.{uses_of, seen_all, seen_field, seen_item, seen_entry, set_field, set_item, set_entry}
use Rattle.cg_nodes.proofs.expressions.+uses.Given as goal

abbrev pub invariant-in_list-loop-expr : goal.invariant-in_list-loop-expr
invariant-in_list-loop-expr l = l.out.items ++ uses_of l.parts (seen_all l.types (drop l.expr-index l.exprs)) ≡ l.fn.out.items ++ uses_of l.parts (seen_all l.types l.exprs)

abbrev pub invariant-in_fields-loop-field : goal.invariant-in_fields-loop-field
invariant-in_fields-loop-field l = l.out.items ++ flat_map (set_field l.of l.parts) (map (seen_field l.types) (drop l.field-index l.fields)) ≡ l.fn.out.items ++ flat_map (set_field l.of l.parts) (map (seen_field l.types) l.fields)

abbrev pub invariant-in_items-loop-item : goal.invariant-in_items-loop-item
invariant-in_items-loop-item l = l.out.items ++ flat_map (set_item l.parts) (map (seen_item l.types) (drop l.item-index l.items)) ≡ l.fn.out.items ++ flat_map (set_item l.parts) (map (seen_item l.types) l.items)

abbrev pub invariant-in_entries-loop-entry : goal.invariant-in_entries-loop-entry
invariant-in_entries-loop-entry l = l.out.items ++ flat_map (set_entry l.parts) (map (seen_entry l.types) (drop l.entry-index l.entries)) ≡ l.fn.out.items ++ flat_map (set_entry l.parts) (map (seen_entry l.types) l.entries)
