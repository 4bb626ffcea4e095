use Rattle.std.proofs.Common.{◌≡◌, take}
use Rattle.std.specs.Prelude.{◌||◌, false}
use Rattle.std.specs.List.{list_any}
use Rattle.go_tree.specs.declared.exprs.EntryInit.{EntryInit}
use Rattle.go_tree.specs.declared.exprs.FieldInit.{FieldInit}
use Rattle.go_tree.specs.declared.exprs.ItemInit.{ItemInit}
use Rattle.typed_parts.specs.Looks.{holds_call}
use Rattle.typed_parts.proofs.holding.+calls.Given as goal

abbrev pub invariant-fields_hold_call-loop-field : goal.invariant-fields_hold_call-loop-field
invariant-fields_hold_call-loop-field l = list_any (λ (field : FieldInit). holds_call field.value) (take l.field-index l.fields) ≡ false

abbrev pub invariant-items_hold_call-loop-item : goal.invariant-items_hold_call-loop-item
invariant-items_hold_call-loop-item l = list_any (λ (item : ItemInit). holds_call item.value) (take l.item-index l.items) ≡ false

abbrev pub invariant-entries_hold_call-loop-entry : goal.invariant-entries_hold_call-loop-entry
invariant-entries_hold_call-loop-entry l = list_any (λ (entry : EntryInit). holds_call entry.key || holds_call entry.value) (take l.entry-index l.entries) ≡ false
