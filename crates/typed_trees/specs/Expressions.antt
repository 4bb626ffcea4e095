-- Whether the types in an expression fit. A line for each form. Go specification, "Expressions".
use Rattle.std.specs.Prelude.{Bool, true, false, ◌&&◌, List, Option, map, option_map, nat_lt}
use Rattle.std.specs.Prelude.{length, slice_get}
use Rattle.std.specs.Global.{Box}
use Rattle.std.specs.List.{list_all}
use Rattle.std.specs.Option.{option_and_then, option_map_or}
use Rattle.go_base.specs.declared.ids.TypeId.{TypeId}
use Rattle.go_tree.specs.declared.exprs.Callee.TheFolds.{fold-TypedExpr, fold-Values}
use Rattle.go_tree.specs.declared.exprs.Callee.TheOpen as layers
use Rattle.go_tree.specs.declared.exprs.TypedExpr.{TypedExpr}
use Rattle.go_tree.specs.declared.exprs.Values.{Values}
use Rattle.go_type.specs.declared.term.Signature.{Signature}
use Rattle.type_shapes.specs.Shapes.{is_id, is_slice, parts_of}
use Rattle.typed_trees.specs.Around.{Around, term, under, signature_in, function_type, literal_type}
use Rattle.typed_trees.specs.Around.{method_type_of, is_variable}
use Rattle.typed_trees.specs.BuiltIns.{fits_built_in}
use Rattle.typed_trees.specs.Conversions.{fits_conversion}
use Rattle.typed_trees.specs.Nodes.{Seen, whole, nil_of, around_one}
use Rattle.typed_trees.specs.Nodes.{is_place, place_if, index_form, entry_form, SeenField, SeenItem, SeenEntry}
use Rattle.typed_trees.specs.Nodes.{fits_constant, fits_nil, fits_method, interface_method, fits_field, fits_index}
use Rattle.typed_trees.specs.Nodes.{fits_map_index, fits_slice, fits_deref, fits_address, fits_unary, fits_binary}
use Rattle.typed_trees.specs.Nodes.{fits_comparison, fits_logic, fits_receive, fits_call_of, fits_boxing}
use Rattle.typed_trees.specs.Nodes.{fits_assertion}
use Rattle.typed_trees.specs.Nodes.{fits_fields, fits_items, fits_entries, fits_method_expression}
use Rattle.typed_trees.specs.declared.forms.Form.TheVariants as forms

-- what is called: its signature without a receiver, and whether the types in it fit
pub record SeenCallee : Type 0 where
  pub signature : Option Signature
  pub fits : Bool

-- the values of a list: their types, and whether the types in them fit
pub record SeenValues : Type 0 where
  pub types : List TypeId
  pub fits : Bool

-- the elements of a composite literal of a type: whether they fit, where a test tells it of values
pub record SeenElements : Type 0 where
  pub fit : (Seen → Bool) → TypeId → Bool

abbrev pub types_of : List Seen → List TypeId
types_of xs = map (λ x. x.of) xs

abbrev pub all_fit : List Seen → Bool
all_fit xs = list_all (λ x. x.fits) xs

module _ (around : Around) where
  abbrev pub type_signature : Option TypeId → Option Signature
  type_signature of = option_and_then (λ it. signature_in (term around it)) of

  abbrev pub callee_layer :
      layers.Callee-F SeenCallee SeenElements (TypeId → Seen) SeenValues SeenEntry SeenField SeenItem Seen → SeenCallee
  callee_layer (layers.Callee-F.Function function) =
      record { signature = type_signature (function_type around function); fits = true }
  callee_layer (layers.Callee-F.Literal function) =
      record { signature = type_signature (literal_type around function); fits = true }
  callee_layer (layers.Callee-F.Method receiver function) =
      record {
        signature = type_signature (method_type_of around function receiver.value.of);
        fits = receiver.value.fits;
      }
  callee_layer (layers.Callee-F.Interface receiver name owner) =
      record {
        signature = type_signature (interface_method around name owner (under around receiver.value.of));
        fits = receiver.value.fits;
      }
  callee_layer (layers.Callee-F.Value value) =
      record { signature = signature_in (under around value.value.of); fits = value.value.fits }

  -- several values of one expression: its parts stand for them
  abbrev pub are_parts : Seen → List Seen → Bool
  are_parts tuple parts =
      option_map_or (λ types. nat_lt 1 (length types) && list_all (λ x. x.fits_part types) parts)
      (parts_of (term around tuple.of)) false

  abbrev pub values_layer :
      layers.Values-F SeenCallee SeenElements (TypeId → Seen) SeenValues SeenEntry SeenField SeenItem Seen → SeenValues
  values_layer (layers.Values-F.Each exprs) =
      record { types = types_of exprs.items; fits = all_fit exprs.items }
  values_layer (layers.Values-F.Spread tuple parts) =
      record { types = types_of parts.items; fits = tuple.value.fits && are_parts tuple.value parts.items }

  abbrev pub elements_layer :
      layers.Elements-F SeenCallee SeenElements (TypeId → Seen) SeenValues SeenEntry SeenField SeenItem Seen
      → SeenElements
  elements_layer (layers.Elements-F.Fields fields) =
      record { fit = λ test of. fits_fields test (under around of) fields.items }
  elements_layer (layers.Elements-F.Items items len) =
      record { fit = λ test of. fits_items test (under around of) items.items len }
  elements_layer (layers.Elements-F.Entries entries) =
      record { fit = λ test of. fits_entries test (under around of) entries.items }

  abbrev pub optional : Option (Box Seen) → Option Seen
  optional it = option_map (λ x. x.value) it

  -- two operands
  abbrev pub both : Seen → Seen → Bool
  both left right = left.fits && right.fits

  abbrev pub kind_layer :
      layers.ExprKind-F SeenCallee SeenElements (TypeId → Seen) SeenValues SeenEntry SeenField SeenItem Seen → TypeId
      → Seen
  kind_layer (layers.ExprKind-F.ConstOf value) of = whole of forms.Other (fits_constant around value of)
  kind_layer (layers.ExprKind-F.NilOf) of = nil_of of (fits_nil around of)
  kind_layer (layers.ExprKind-F.VarOf variable) of = whole of forms.Place (is_variable around variable of)
  kind_layer (layers.ExprKind-F.FunctionOf function) of =
      whole of forms.Other (is_id (function_type around function) of)
  kind_layer (layers.ExprKind-F.LiteralOf function) of = whole of forms.Other (is_id (literal_type around function) of)
  kind_layer (layers.ExprKind-F.MethodValue receiver method) of =
      whole of forms.Other (fits_method around method receiver.value.of of && receiver.value.fits)
  kind_layer (layers.ExprKind-F.MethodExpr receiver name owner) of =
      whole of forms.Other (fits_method_expression around receiver name owner of)
  kind_layer (layers.ExprKind-F.FieldOf operand field) of =
      whole of (place_if (is_place operand.value.form))
      (fits_field around field operand.value.of of && operand.value.fits)
  kind_layer (layers.ExprKind-F.IndexOf base operand index) of =
      whole of (index_form around base operand.value.form)
      (fits_index around base operand.value index.value of && both operand.value index.value)
  kind_layer (layers.ExprKind-F.MapIndex table key comma_ok) of =
      whole of (entry_form around comma_ok)
      (fits_map_index around table.value.of key.value.of comma_ok of && both table.value key.value)
  kind_layer (layers.ExprKind-F.SliceOf base operand low high max) of =
      whole of forms.Other (fits_slice around base operand.value (optional low) (optional high) (optional max) of)
  kind_layer (layers.ExprKind-F.Deref operand) of =
      whole of forms.Place (fits_deref around operand.value.of of && operand.value.fits)
  kind_layer (layers.ExprKind-F.AddressOf operand) of =
      whole of forms.Other (fits_address around operand.value of && operand.value.fits)
  kind_layer (layers.ExprKind-F.UnaryOf op operand) of =
      whole of forms.Other (fits_unary around op operand.value.of of && operand.value.fits)
  kind_layer (layers.ExprKind-F.BinaryOf op left right) of =
      whole of forms.Other (fits_binary around op left.value.of right.value.of of && both left.value right.value)
  kind_layer (layers.ExprKind-F.CompareOf op left right) of =
      whole of forms.Other (fits_comparison around op left.value right.value of && both left.value right.value)
  kind_layer (layers.ExprKind-F.AndAlso left right) of =
      whole of forms.Other (fits_logic around left.value.of right.value.of of && both left.value right.value)
  kind_layer (layers.ExprKind-F.OrElse left right) of =
      whole of forms.Other (fits_logic around left.value.of right.value.of of && both left.value right.value)
  kind_layer (layers.ExprKind-F.Receive channel comma_ok) of =
      whole of forms.Other (fits_receive around channel.value.of comma_ok of && channel.value.fits)
  kind_layer (layers.ExprKind-F.CallOf callee arguments) of =
      whole of forms.Call (fits_call_of around callee.signature arguments.types of && (callee.fits && arguments.fits))
  kind_layer (layers.ExprKind-F.BuiltinOf builtin form arguments spread) of =
      whole of forms.Call (fits_built_in around builtin form spread arguments.items of && all_fit arguments.items)
  kind_layer (layers.ExprKind-F.ConvertTo operand) of =
      around_one of (fits_conversion around operand.value.of of) operand.value
  kind_layer (layers.ExprKind-F.ToInterface operand) of =
      around_one of (fits_boxing around operand.value.of of) operand.value
  kind_layer (layers.ExprKind-F.AssertTo operand to comma_ok) of =
      whole of forms.Other (fits_assertion around operand.value.of to comma_ok of && operand.value.fits)
  kind_layer (layers.ExprKind-F.CompositeOf elements) of =
      record {
        of = of;
        form = forms.Composite;
        fits = elements.fit (λ x. x.fits) of;
        fits_part = λ parts. is_slice (under around of) && elements.fit (λ x. x.fits_part parts) of;
      }
  kind_layer (layers.ExprKind-F.PartOf part) of =
      record { of = of; form = forms.Other; fits = false; fits_part = λ parts. is_id (slice_get parts part) of }

  abbrev pub entry_layer :
      layers.EntryInit-F SeenCallee SeenElements (TypeId → Seen) SeenValues SeenEntry SeenField SeenItem Seen
      → SeenEntry
  entry_layer x = record { key = x.key; value = x.value }

  abbrev pub field_layer :
      layers.FieldInit-F SeenCallee SeenElements (TypeId → Seen) SeenValues SeenEntry SeenField SeenItem Seen
      → SeenField
  field_layer x = record { field = x.field; value = x.value }

  abbrev pub item_layer :
      layers.ItemInit-F SeenCallee SeenElements (TypeId → Seen) SeenValues SeenEntry SeenField SeenItem Seen
      → SeenItem
  item_layer x = record { index = x.index; value = x.value }

  abbrev pub expr_layer :
      layers.TypedExpr-F SeenCallee SeenElements (TypeId → Seen) SeenValues SeenEntry SeenField SeenItem Seen → Seen
  expr_layer x = x.kind x.of

  -- ---- whole trees

  unfoldable pub seen : TypedExpr → Seen
  seen =
      fold-TypedExpr SeenCallee SeenElements (TypeId → Seen) SeenValues SeenEntry SeenField SeenItem Seen callee_layer
      elements_layer kind_layer values_layer entry_layer field_layer item_layer expr_layer

  unfoldable pub seen_values : Values → SeenValues
  seen_values =
      fold-Values SeenCallee SeenElements (TypeId → Seen) SeenValues SeenEntry SeenField SeenItem Seen callee_layer
      elements_layer kind_layer values_layer entry_layer field_layer item_layer expr_layer
