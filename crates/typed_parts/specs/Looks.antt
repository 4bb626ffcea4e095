-- Which expressions are places, whose address may be taken, and in which a call stands. A line for each form. Go
-- specification, "Address operators" and "Length and capacity".
use Rattle.std.specs.Prelude.{Bool, true, false, ◌||◌, Option, Some, None}
use Rattle.std.specs.Global.{Box}
use Rattle.std.specs.List.{list_any}
use Rattle.go_tree.specs.declared.exprs.Callee.TheOpen as layers
use Rattle.go_tree.specs.declared.exprs.Callee.TheFolds.{fold-Callee, fold-Elements, fold-ExprKind, fold-Values}
use Rattle.go_tree.specs.declared.exprs.Callee.TheFolds.{fold-EntryInit, fold-FieldInit, fold-ItemInit, fold-TypedExpr}
use Rattle.go_tree.specs.declared.exprs.Callee.{Callee}
use Rattle.go_tree.specs.declared.exprs.Elements.{Elements}
use Rattle.go_tree.specs.declared.exprs.EntryInit.{EntryInit}
use Rattle.go_tree.specs.declared.exprs.ExprKind.{ExprKind}
use Rattle.go_tree.specs.declared.exprs.FieldInit.{FieldInit}
use Rattle.go_tree.specs.declared.exprs.IndexBase.{IndexBase}
use Rattle.go_tree.specs.declared.exprs.IndexBase.TheVariants as base_of
use Rattle.go_tree.specs.declared.exprs.ItemInit.{ItemInit}
use Rattle.go_tree.specs.declared.exprs.TypedExpr.{TypedExpr}
use Rattle.go_tree.specs.declared.exprs.Values.{Values}

-- an expression: whether it is a place, and whether a call, a receive or a call of a built-in function stands in it
pub record Look : Type 0 where
  pub is_place : Bool
  pub holds_call : Bool

abbrev pub value : Bool → Look
value calls = record { is_place = false; holds_call = calls }

abbrev pub place : Bool → Look
place calls = record { is_place = true; holds_call = calls }

-- "a slice indexing operation", and "an array indexing operation of an addressable array"
abbrev pub is_element_place : IndexBase → Bool → Bool
is_element_place base_of.Slice operand = true
is_element_place base_of.Array operand = operand
is_element_place base_of.Text operand = false

abbrev pub holds_if : Option (Box Look) → Bool
holds_if None = false
holds_if (Some x) = x.value.holds_call

-- ---- one layer of each tree, where what is below it is seen already; what is called and its arguments stand in a call

abbrev pub callee_layer : layers.Callee-F Bool Bool Look Bool Bool Bool Bool Look → Bool
callee_layer x = true

abbrev pub values_layer : layers.Values-F Bool Bool Look Bool Bool Bool Bool Look → Bool
values_layer x = true

abbrev pub elements_layer : layers.Elements-F Bool Bool Look Bool Bool Bool Bool Look → Bool
elements_layer (layers.Elements-F.Fields fields) = list_any (λ (b : Bool). b) fields.items
elements_layer (layers.Elements-F.Items items len) = list_any (λ (b : Bool). b) items.items
elements_layer (layers.Elements-F.Entries entries) = list_any (λ (b : Bool). b) entries.items

-- "a variable, pointer indirection, or slice indexing operation; or a field selector of an addressable struct operand;
-- or an array indexing operation of an addressable array"
abbrev pub kind_layer : layers.ExprKind-F Bool Bool Look Bool Bool Bool Bool Look → Look
kind_layer (layers.ExprKind-F.ConstOf constant) = value false
kind_layer (layers.ExprKind-F.NilOf) = value false
kind_layer (layers.ExprKind-F.VarOf variable) = place false
kind_layer (layers.ExprKind-F.FunctionOf function) = value false
kind_layer (layers.ExprKind-F.LiteralOf function) = value false
kind_layer (layers.ExprKind-F.MethodValue receiver method) = value receiver.value.holds_call
kind_layer (layers.ExprKind-F.MethodExpr receiver name package_number) = value false
kind_layer (layers.ExprKind-F.FieldOf operand field) =
    record { is_place = operand.value.is_place; holds_call = operand.value.holds_call }
kind_layer (layers.ExprKind-F.IndexOf base operand index) = record {
  is_place = is_element_place base operand.value.is_place;
  holds_call = operand.value.holds_call || index.value.holds_call;
}
kind_layer (layers.ExprKind-F.MapIndex table key comma_ok) = value (table.value.holds_call || key.value.holds_call)
kind_layer (layers.ExprKind-F.SliceOf base operand low high max) =
    value (operand.value.holds_call || (holds_if low || (holds_if high || holds_if max)))
kind_layer (layers.ExprKind-F.Deref operand) = place operand.value.holds_call
kind_layer (layers.ExprKind-F.AddressOf operand) = value operand.value.holds_call
kind_layer (layers.ExprKind-F.UnaryOf op operand) = value operand.value.holds_call
kind_layer (layers.ExprKind-F.BinaryOf op left right) = value (left.value.holds_call || right.value.holds_call)
kind_layer (layers.ExprKind-F.CompareOf op left right) = value (left.value.holds_call || right.value.holds_call)
kind_layer (layers.ExprKind-F.AndAlso left right) = value (left.value.holds_call || right.value.holds_call)
kind_layer (layers.ExprKind-F.OrElse left right) = value (left.value.holds_call || right.value.holds_call)
kind_layer (layers.ExprKind-F.Receive channel comma_ok) = value true
kind_layer (layers.ExprKind-F.CallOf callee arguments) = value true
kind_layer (layers.ExprKind-F.BuiltinOf builtin form arguments spread) = value true
kind_layer (layers.ExprKind-F.ConvertTo operand) = value operand.value.holds_call
kind_layer (layers.ExprKind-F.ToInterface operand) = value operand.value.holds_call
kind_layer (layers.ExprKind-F.AssertTo operand to comma_ok) = value operand.value.holds_call
kind_layer (layers.ExprKind-F.CompositeOf elements) = value elements
kind_layer (layers.ExprKind-F.PartOf part) = value false

abbrev pub entry_layer : layers.EntryInit-F Bool Bool Look Bool Bool Bool Bool Look → Bool
entry_layer x = x.key.holds_call || x.value.holds_call

abbrev pub field_layer : layers.FieldInit-F Bool Bool Look Bool Bool Bool Bool Look → Bool
field_layer x = x.value.holds_call

abbrev pub item_layer : layers.ItemInit-F Bool Bool Look Bool Bool Bool Bool Look → Bool
item_layer x = x.value.holds_call

abbrev pub expr_layer : layers.TypedExpr-F Bool Bool Look Bool Bool Bool Bool Look → Look
expr_layer x = x.kind

-- ---- whole trees

unfoldable pub holds_callee : Callee → Bool
holds_callee =
    fold-Callee Bool Bool Look Bool Bool Bool Bool Look callee_layer elements_layer kind_layer values_layer entry_layer
    field_layer item_layer expr_layer

unfoldable pub holds_elements : Elements → Bool
holds_elements =
    fold-Elements Bool Bool Look Bool Bool Bool Bool Look callee_layer elements_layer kind_layer values_layer
    entry_layer field_layer item_layer expr_layer

unfoldable pub look_kind : ExprKind → Look
look_kind =
    fold-ExprKind Bool Bool Look Bool Bool Bool Bool Look callee_layer elements_layer kind_layer values_layer
    entry_layer field_layer item_layer expr_layer

unfoldable pub holds_values : Values → Bool
holds_values =
    fold-Values Bool Bool Look Bool Bool Bool Bool Look callee_layer elements_layer kind_layer values_layer entry_layer
    field_layer item_layer expr_layer

unfoldable pub holds_entry : EntryInit → Bool
holds_entry =
    fold-EntryInit Bool Bool Look Bool Bool Bool Bool Look callee_layer elements_layer kind_layer values_layer
    entry_layer field_layer item_layer expr_layer

unfoldable pub holds_field : FieldInit → Bool
holds_field =
    fold-FieldInit Bool Bool Look Bool Bool Bool Bool Look callee_layer elements_layer kind_layer values_layer
    entry_layer field_layer item_layer expr_layer

unfoldable pub holds_item : ItemInit → Bool
holds_item =
    fold-ItemInit Bool Bool Look Bool Bool Bool Bool Look callee_layer elements_layer kind_layer values_layer
    entry_layer field_layer item_layer expr_layer

unfoldable pub look : TypedExpr → Look
look =
    fold-TypedExpr Bool Bool Look Bool Bool Bool Bool Look callee_layer elements_layer kind_layer values_layer
    entry_layer field_layer item_layer expr_layer

abbrev pub is_place : TypedExpr → Bool
is_place x = (look x).is_place

abbrev pub holds_call : TypedExpr → Bool
holds_call x = (look x).holds_call

abbrev pub bound_holds_call : Option (Box TypedExpr) → Bool
bound_holds_call None = false
bound_holds_call (Some x) = holds_call x.value
