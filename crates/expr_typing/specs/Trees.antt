-- The trees below an expression, as they are seen there.
use Rattle.std.specs.Prelude.{Bool, true, false, ◌&&◌, List, [], length, nat_lt, Option, Some, None}
use Rattle.std.specs.Global.{Box}
use Rattle.go_base.specs.declared.ids.TypeId.{TypeId}
use Rattle.go_tree.specs.declared.exprs.Callee.{Callee}
use Rattle.go_tree.specs.declared.exprs.Elements.{Elements}
use Rattle.go_tree.specs.declared.exprs.EntryInit.{EntryInit}
use Rattle.go_tree.specs.declared.exprs.ExprKind.{ExprKind}
use Rattle.go_tree.specs.declared.exprs.FieldInit.{FieldInit}
use Rattle.go_tree.specs.declared.exprs.ItemInit.{ItemInit}
use Rattle.go_tree.specs.declared.exprs.TypedExpr.{TypedExpr}
use Rattle.go_tree.specs.declared.exprs.Values.{Values}
use Rattle.go_tree.specs.declared.exprs.Callee.TheOpen as layers
use Rattle.go_tree.specs.declared.exprs.Callee.TheViews.{out-Values}
use Rattle.go_tree.specs.declared.exprs.Callee.TheFolds.{fold-Callee, fold-Elements, fold-ExprKind}
use Rattle.go_tree.specs.declared.exprs.Callee.TheFolds.{fold-EntryInit, fold-FieldInit, fold-ItemInit}
use Rattle.go_type.specs.Same.{same_id}
use Rattle.expr_typing.specs.declared.expressions.Asked.{Asked}
use Rattle.expr_typing.specs.declared.expressions.Asked.TheVariants as asked_as
use Rattle.expr_typing.specs.Parts.{is_integer_type}
use Rattle.typed_trees.specs.Around.{Around}
use Rattle.typed_trees.specs.Expressions.{SeenCallee, SeenValues, SeenElements, seen}
use Rattle.typed_trees.specs.Expressions.{callee_layer, values_layer, elements_layer, kind_layer}
use Rattle.typed_trees.specs.Expressions.{entry_layer, field_layer, item_layer, expr_layer}
use Rattle.typed_trees.specs.declared.forms.Form.TheVariants as forms
use Rattle.typed_trees.specs.Nodes.{whole, Seen, SeenField, SeenItem, SeenEntry}

-- whether an expression fits as a whole, or where it is made of parts of types
abbrev pub asks : Asked → Seen → Bool
asks asked_as.Whole x = x.fits
asks (asked_as.Part types) x = x.fits_part types.now

-- ---- the values of a list

abbrev pub layer_exprs : layers.Values-F Callee Elements ExprKind Values EntryInit FieldInit ItemInit TypedExpr
    → List TypedExpr
layer_exprs (layers.Values-F.Each exprs) = exprs.items
layer_exprs (layers.Values-F.Spread tuple parts) = parts.items

-- the expressions of the values of a list
unfoldable pub value_exprs : Values → List TypedExpr
value_exprs values = layer_exprs (out-Values values)

-- an expression by its type alone
abbrev pub typed_as : TypedExpr → Seen
typed_as x = whole x.of forms.Other true

abbrev pub has_type : TypedExpr → TypeId → Bool
has_type x of = same_id x.of of

-- the types of several values, where there are any
abbrev pub part_types : Option (List TypeId) → List TypeId
part_types None = []
part_types (Some types) = types

abbrev pub are_several : Option (List TypeId) → Bool
are_several None = false
are_several (Some types) = nat_lt 1 (length types)

module _ (around : Around) where
  unfoldable pub seen_callee : Callee → SeenCallee
  seen_callee =
      fold-Callee SeenCallee SeenElements (TypeId → Seen) SeenValues SeenEntry SeenField SeenItem Seen
      (callee_layer around) (elements_layer around) (kind_layer around) (values_layer around) (entry_layer around)
      (field_layer around) (item_layer around) (expr_layer around)

  unfoldable pub seen_elements : Elements → SeenElements
  seen_elements =
      fold-Elements SeenCallee SeenElements (TypeId → Seen) SeenValues SeenEntry SeenField SeenItem Seen
      (callee_layer around) (elements_layer around) (kind_layer around) (values_layer around) (entry_layer around)
      (field_layer around) (item_layer around) (expr_layer around)

  unfoldable pub seen_kind : ExprKind → TypeId → Seen
  seen_kind =
      fold-ExprKind SeenCallee SeenElements (TypeId → Seen) SeenValues SeenEntry SeenField SeenItem Seen
      (callee_layer around) (elements_layer around) (kind_layer around) (values_layer around) (entry_layer around)
      (field_layer around) (item_layer around) (expr_layer around)

  unfoldable pub seen_entry : EntryInit → SeenEntry
  seen_entry =
      fold-EntryInit SeenCallee SeenElements (TypeId → Seen) SeenValues SeenEntry SeenField SeenItem Seen
      (callee_layer around) (elements_layer around) (kind_layer around) (values_layer around) (entry_layer around)
      (field_layer around) (item_layer around) (expr_layer around)

  unfoldable pub seen_field : FieldInit → SeenField
  seen_field =
      fold-FieldInit SeenCallee SeenElements (TypeId → Seen) SeenValues SeenEntry SeenField SeenItem Seen
      (callee_layer around) (elements_layer around) (kind_layer around) (values_layer around) (entry_layer around)
      (field_layer around) (item_layer around) (expr_layer around)

  unfoldable pub seen_item : ItemInit → SeenItem
  seen_item =
      fold-ItemInit SeenCallee SeenElements (TypeId → Seen) SeenValues SeenEntry SeenField SeenItem Seen
      (callee_layer around) (elements_layer around) (kind_layer around) (values_layer around) (entry_layer around)
      (field_layer around) (item_layer around) (expr_layer around)

  -- a place in a slice expression, where it is not left out
  abbrev pub bound_fits : Option (Box TypedExpr) → Bool
  bound_fits None = true
  bound_fits (Some x) = is_integer_type around.program.types (seen around x.value).of && (seen around x.value).fits
