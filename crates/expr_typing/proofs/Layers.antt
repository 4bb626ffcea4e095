-- What the forms of expressions are seen as.
use Rattle.std.proofs.Common.{◌≡◌, refl, sym, ap, ◌∙◌, List, [], ◌∷◌, map, Option, Some, None, ℕ, Bool, true, false, ◌&&◌, ◌||◌}
use Rattle.std.specs.Prelude.{◌==◌, not, nat_lt, length, is_some, slice_get}
use Rattle.std.specs.Global.{Box}
use Rattle.std.specs.List.{list_all}
use Rattle.std.specs.Option.{option_map_or}
use Rattle.go_base.specs.declared.ids.TypeId.{TypeId}
use Rattle.go_tree.specs.declared.exprs.Callee.{Callee}
use Rattle.go_tree.specs.declared.exprs.Elements.{Elements}
use Rattle.go_tree.specs.declared.exprs.EntryInit.{EntryInit}
use Rattle.go_tree.specs.declared.exprs.ExprKind.{ExprKind}
use Rattle.go_tree.specs.declared.exprs.FieldInit.{FieldInit}
use Rattle.go_tree.specs.declared.exprs.ItemInit.{ItemInit}
use Rattle.go_tree.specs.declared.exprs.TypedExpr.{TypedExpr}
use Rattle.go_tree.specs.declared.exprs.Values.{Values}
use Rattle.go_tree.specs.declared.exprs.SliceBase.{SliceBase}
use Rattle.go_tree.specs.declared.exprs.SliceBase.TheVariants as sliced
use Rattle.go_tree.specs.declared.exprs.IndexBase.{IndexBase}
use Rattle.go_tree.specs.declared.exprs.IndexBase.TheVariants as indexed
use Rattle.go_tree.specs.declared.exprs.Callee.TheOpen as layers
use Rattle.go_tree.specs.declared.exprs.Callee.TheOpen.{Callee-F, Elements-F, ExprKind-F, Values-F}
use Rattle.go_tree.specs.declared.exprs.Callee.TheVariants as callees
use Rattle.go_tree.specs.declared.exprs.Elements.TheVariants as elements_of
use Rattle.go_tree.specs.declared.exprs.ExprKind.TheVariants as kinds
use Rattle.go_tree.specs.declared.exprs.Values.TheVariants as values
use Rattle.go_tree.specs.declared.exprs.Callee.TheViews.{roll-Callee, roll-Elements, roll-ExprKind, roll-Values, out-Values, out-ExprKind}
use Rattle.go_tree.specs.declared.exprs.Callee.TheFolds.{fold-roll-Callee, fold-roll-Elements, fold-roll-ExprKind, fold-roll-Values, fold-roll-EntryInit, fold-roll-FieldInit, fold-roll-ItemInit, fold-roll-TypedExpr, map-Callee, map-Elements, map-ExprKind, map-Values, fold_out-ExprKind, fold_out-Values}
use Rattle.go_type.specs.declared.term.TypeTerm.{TypeTerm}
use Rattle.go_type.specs.declared.term.TypeTerm.TheVariants as terms
use Rattle.type_shapes.specs.Shapes.{is_id, is_map, is_slice, is_pointer_to, parts_of}
use Rattle.typed_trees.specs.Around.{Around, term, under, signature_in, function_type, literal_type, method_type_of, is_variable}
use Rattle.typed_trees.specs.BuiltIns.{fits_built_in}
use Rattle.typed_trees.specs.Conversions.{fits_conversion}
use Rattle.typed_trees.specs.Expressions.{SeenCallee, SeenValues, SeenElements, seen, seen_values, callee_layer, values_layer, elements_layer, kind_layer, entry_layer, field_layer, item_layer, expr_layer, type_signature, types_of, all_fit}
use Rattle.typed_trees.specs.Nodes.{Seen, SeenField, SeenItem, SeenEntry, is_place, place_if, has_address, index_form, entry_form, fits_constant, fits_nil, fits_method, interface_method, fits_method_expression, fits_field, fits_element, fits_map_index, fits_sliced, is_text_base, fits_deref, fits_unary, fits_binary, fits_comparison, fits_logic, fits_receive, fits_call_of, fits_boxing, fits_assertion, fits_fields, fits_items, fits_entries, fits_set_field, are_distinct}
use Rattle.typed_trees.specs.declared.forms.Form.{Form}
use Rattle.typed_trees.specs.declared.forms.Form.TheVariants as forms
use Rattle.expr_typing.specs.Parts.{is_integer_type, is_struct, has_items, item_type, key_type, value_type, item_fits, entry_fits}
use Rattle.expr_typing.specs.Trees.{layer_exprs, value_exprs, part_types, are_several, seen_callee, seen_elements, seen_kind, seen_entry, seen_field, seen_item, bound_fits, typed_as}
use Rattle.expr_typing.proofs.Arguments.{fits_alike}
use Rattle.expr_typing.specs.Parts as part

abbrev kind_layer_at : (a : Around) → ExprKind-F Callee Elements ExprKind Values EntryInit FieldInit ItemInit TypedExpr → TypeId → Seen
kind_layer_at a x = kind_layer a (map-ExprKind Callee Elements ExprKind Values EntryInit FieldInit ItemInit TypedExpr SeenCallee SeenElements (TypeId → Seen) SeenValues SeenEntry SeenField SeenItem Seen (seen_callee a) (seen_elements a) (seen_kind a) (seen_values a) (seen_entry a) (seen_field a) (seen_item a) (seen a) x)

kind_is : (a : Around) (x : ExprKind-F Callee Elements ExprKind Values EntryInit FieldInit ItemInit TypedExpr) → seen_kind a (roll-ExprKind x) ≡ kind_layer_at a x
unfolding seen_callee seen_elements seen_kind seen_values seen_entry seen_field seen_item seen
kind_is a x = fold-roll-ExprKind SeenCallee SeenElements (TypeId → Seen) SeenValues SeenEntry SeenField SeenItem Seen (callee_layer a) (elements_layer a) (kind_layer a) (values_layer a) (entry_layer a) (field_layer a) (item_layer a) (expr_layer a) x

abbrev callee_layer_at : (a : Around) → Callee-F Callee Elements ExprKind Values EntryInit FieldInit ItemInit TypedExpr → SeenCallee
callee_layer_at a x = callee_layer a (map-Callee Callee Elements ExprKind Values EntryInit FieldInit ItemInit TypedExpr SeenCallee SeenElements (TypeId → Seen) SeenValues SeenEntry SeenField SeenItem Seen (seen_callee a) (seen_elements a) (seen_kind a) (seen_values a) (seen_entry a) (seen_field a) (seen_item a) (seen a) x)

callee_is : (a : Around) (x : Callee-F Callee Elements ExprKind Values EntryInit FieldInit ItemInit TypedExpr) → seen_callee a (roll-Callee x) ≡ callee_layer_at a x
unfolding seen_callee seen_elements seen_kind seen_values seen_entry seen_field seen_item seen
callee_is a x = fold-roll-Callee SeenCallee SeenElements (TypeId → Seen) SeenValues SeenEntry SeenField SeenItem Seen (callee_layer a) (elements_layer a) (kind_layer a) (values_layer a) (entry_layer a) (field_layer a) (item_layer a) (expr_layer a) x

abbrev values_layer_at : (a : Around) → Values-F Callee Elements ExprKind Values EntryInit FieldInit ItemInit TypedExpr → SeenValues
values_layer_at a x = values_layer a (map-Values Callee Elements ExprKind Values EntryInit FieldInit ItemInit TypedExpr SeenCallee SeenElements (TypeId → Seen) SeenValues SeenEntry SeenField SeenItem Seen (seen_callee a) (seen_elements a) (seen_kind a) (seen_values a) (seen_entry a) (seen_field a) (seen_item a) (seen a) x)

values_is : (a : Around) (x : Values-F Callee Elements ExprKind Values EntryInit FieldInit ItemInit TypedExpr) → seen_values a (roll-Values x) ≡ values_layer_at a x
unfolding seen_callee seen_elements seen_kind seen_values seen_entry seen_field seen_item seen
values_is a x = fold-roll-Values SeenCallee SeenElements (TypeId → Seen) SeenValues SeenEntry SeenField SeenItem Seen (callee_layer a) (elements_layer a) (kind_layer a) (values_layer a) (entry_layer a) (field_layer a) (item_layer a) (expr_layer a) x

abbrev elements_layer_at : (a : Around) → Elements-F Callee Elements ExprKind Values EntryInit FieldInit ItemInit TypedExpr → SeenElements
elements_layer_at a x = elements_layer a (map-Elements Callee Elements ExprKind Values EntryInit FieldInit ItemInit TypedExpr SeenCallee SeenElements (TypeId → Seen) SeenValues SeenEntry SeenField SeenItem Seen (seen_callee a) (seen_elements a) (seen_kind a) (seen_values a) (seen_entry a) (seen_field a) (seen_item a) (seen a) x)

elements_is : (a : Around) (x : Elements-F Callee Elements ExprKind Values EntryInit FieldInit ItemInit TypedExpr) → seen_elements a (roll-Elements x) ≡ elements_layer_at a x
unfolding seen_callee seen_elements seen_kind seen_values seen_entry seen_field seen_item seen
elements_is a x = fold-roll-Elements SeenCallee SeenElements (TypeId → Seen) SeenValues SeenEntry SeenField SeenItem Seen (callee_layer a) (elements_layer a) (kind_layer a) (values_layer a) (entry_layer a) (field_layer a) (item_layer a) (expr_layer a) x

kind_out : (a : Around) (x : ExprKind) → seen_kind a x ≡ kind_layer_at a (out-ExprKind x)
unfolding seen_callee seen_elements seen_kind seen_values seen_entry seen_field seen_item seen
kind_out a x = fold_out-ExprKind SeenCallee SeenElements (TypeId → Seen) SeenValues SeenEntry SeenField SeenItem Seen (callee_layer a) (elements_layer a) (kind_layer a) (values_layer a) (entry_layer a) (field_layer a) (item_layer a) (expr_layer a) x

values_out : (a : Around) (x : Values) → seen_values a x ≡ values_layer_at a (out-Values x)
unfolding seen_callee seen_elements seen_kind seen_values seen_entry seen_field seen_item seen
values_out a x = fold_out-Values SeenCallee SeenElements (TypeId → Seen) SeenValues SeenEntry SeenField SeenItem Seen (callee_layer a) (elements_layer a) (kind_layer a) (values_layer a) (entry_layer a) (field_layer a) (item_layer a) (expr_layer a) x

-- ---- whole expressions

expr_is : (a : Around) (x : TypedExpr) → seen a x ≡ seen_kind a x.kind x.of
unfolding seen_callee seen_elements seen_kind seen_values seen_entry seen_field seen_item seen
expr_is a x = fold-roll-TypedExpr SeenCallee SeenElements (TypeId → Seen) SeenValues SeenEntry SeenField SeenItem Seen (callee_layer a) (elements_layer a) (kind_layer a) (values_layer a) (entry_layer a) (field_layer a) (item_layer a) (expr_layer a) (record { at = x.at; of = x.of; kind = x.kind })

layer_type : (a : Around) (x : ExprKind-F SeenCallee SeenElements (TypeId → Seen) SeenValues SeenEntry SeenField SeenItem Seen) (of : TypeId) → (kind_layer a x of).of ≡ of
layer_type a (layers.ExprKind-F.ConstOf value) of = refl
layer_type a layers.ExprKind-F.NilOf of = refl
layer_type a (layers.ExprKind-F.VarOf variable) of = refl
layer_type a (layers.ExprKind-F.FunctionOf function) of = refl
layer_type a (layers.ExprKind-F.LiteralOf function) of = refl
layer_type a (layers.ExprKind-F.MethodValue receiver method) of = refl
layer_type a (layers.ExprKind-F.MethodExpr receiver name owner) of = refl
layer_type a (layers.ExprKind-F.FieldOf operand field) of = refl
layer_type a (layers.ExprKind-F.IndexOf base operand index) of = refl
layer_type a (layers.ExprKind-F.MapIndex table key comma_ok) of = refl
layer_type a (layers.ExprKind-F.SliceOf base operand low high max) of = refl
layer_type a (layers.ExprKind-F.Deref operand) of = refl
layer_type a (layers.ExprKind-F.AddressOf operand) of = refl
layer_type a (layers.ExprKind-F.UnaryOf op operand) of = refl
layer_type a (layers.ExprKind-F.BinaryOf op left right) of = refl
layer_type a (layers.ExprKind-F.CompareOf op left right) of = refl
layer_type a (layers.ExprKind-F.AndAlso left right) of = refl
layer_type a (layers.ExprKind-F.OrElse left right) of = refl
layer_type a (layers.ExprKind-F.Receive channel comma_ok) of = refl
layer_type a (layers.ExprKind-F.CallOf callee arguments) of = refl
layer_type a (layers.ExprKind-F.BuiltinOf builtin form arguments spread) of = refl
layer_type a (layers.ExprKind-F.ConvertTo operand) of = refl
layer_type a (layers.ExprKind-F.ToInterface operand) of = refl
layer_type a (layers.ExprKind-F.AssertTo operand to comma_ok) of = refl
layer_type a (layers.ExprKind-F.CompositeOf elements) of = refl
layer_type a (layers.ExprKind-F.PartOf part) of = refl

pub of_is : (a : Around) (x : TypedExpr) → (seen a x).of ≡ x.of
of_is a x = ap (λ (y : Seen). y.of) (expr_is a x) ∙ (ap (λ (k : TypeId → Seen). (k x.of).of) (kind_out a x.kind) ∙ layer_type a (map-ExprKind Callee Elements ExprKind Values EntryInit FieldInit ItemInit TypedExpr SeenCallee SeenElements (TypeId → Seen) SeenValues SeenEntry SeenField SeenItem Seen (seen_callee a) (seen_elements a) (seen_kind a) (seen_values a) (seen_entry a) (seen_field a) (seen_item a) (seen a) (out-ExprKind x.kind)) x.of)

pub fits_is : (a : Around) (x : TypedExpr) → (seen a x).fits ≡ (seen_kind a x.kind x.of).fits
fits_is a x = ap (λ (y : Seen). y.fits) (expr_is a x)

pub kind_fits : (a : Around) (x : TypedExpr) (kind : ExprKind) → x.kind ≡ kind → (seen a x).fits ≡ (seen_kind a kind x.of).fits
kind_fits a x kind e = fits_is a x ∙ ap (λ (k : ExprKind). (seen_kind a k x.of).fits) e

pub form_is : (a : Around) (x : TypedExpr) → (seen a x).form ≡ (seen_kind a x.kind x.of).form
form_is a x = ap (λ (y : Seen). y.form) (expr_is a x)

pub part_is : (a : Around) (x : TypedExpr) (parts : List TypeId) → (seen a x).fits_part parts ≡ (seen_kind a x.kind x.of).fits_part parts
part_is a x parts = ap (λ (y : Seen). y.fits_part parts) (expr_is a x)

-- ---- an expression by its form

index_same : (a : Around) (base : IndexBase) (form : Form) → index_form a base form ≡ part.element_form base form
index_same a indexed.Array form = refl
index_same a indexed.Slice form = refl
index_same a indexed.Text form = refl

text_same : (a : Around) (base : SliceBase) → is_text_base a base ≡ part.is_text_base base
text_same a sliced.ArrayPointer = refl
text_same a sliced.Slice = refl
text_same a sliced.Text = refl

entry_same : (a : Around) (comma_ok : Bool) → entry_form a comma_ok ≡ part.entry_form comma_ok
entry_same a true = refl
entry_same a false = refl

const_of_is : (a : Around) (value : _) → seen_kind a (kinds.ConstOf value) ≡ kind_layer_at a (layers.ExprKind-F.ConstOf value)
const_of_is a value = ap (seen_kind a) (sym (kinds.rolls-ConstOf value)) ∙ kind_is a (layers.ExprKind-F.ConstOf value)

pub const_of_fits : (a : Around) (value : _) (of : TypeId) → (seen_kind a (kinds.ConstOf value) of).fits ≡ fits_constant a value of
const_of_fits a value of = ap (λ (k : TypeId → Seen). (k of).fits) (const_of_is a value)

pub const_of_form : (a : Around) (value : _) (of : TypeId) → (seen_kind a (kinds.ConstOf value) of).form ≡ forms.Other
const_of_form a value of = ap (λ (k : TypeId → Seen). (k of).form) (const_of_is a value)

pub const_of_part : (a : Around) (value : _) (of : TypeId) (parts : List TypeId) → (seen_kind a (kinds.ConstOf value) of).fits_part parts ≡ false
const_of_part a value of parts = ap (λ (k : TypeId → Seen). (k of).fits_part parts) (const_of_is a value)

nil_of_is : (a : Around) → seen_kind a ExprKind.NilOf ≡ kind_layer_at a layers.ExprKind-F.NilOf
nil_of_is a = ap (seen_kind a) (sym kinds.rolls-NilOf) ∙ kind_is a layers.ExprKind-F.NilOf

pub nil_of_fits : (a : Around) (of : TypeId) → (seen_kind a ExprKind.NilOf of).fits ≡ fits_nil a of
nil_of_fits a of = ap (λ (k : TypeId → Seen). (k of).fits) (nil_of_is a)

pub nil_of_form : (a : Around) (of : TypeId) → (seen_kind a ExprKind.NilOf of).form ≡ forms.Nothing
nil_of_form a of = ap (λ (k : TypeId → Seen). (k of).form) (nil_of_is a)

pub nil_of_part : (a : Around) (of : TypeId) (parts : List TypeId) → (seen_kind a ExprKind.NilOf of).fits_part parts ≡ fits_nil a of
nil_of_part a of parts = ap (λ (k : TypeId → Seen). (k of).fits_part parts) (nil_of_is a)

var_of_is : (a : Around) (variable : _) → seen_kind a (kinds.VarOf variable) ≡ kind_layer_at a (layers.ExprKind-F.VarOf variable)
var_of_is a variable = ap (seen_kind a) (sym (kinds.rolls-VarOf variable)) ∙ kind_is a (layers.ExprKind-F.VarOf variable)

pub var_of_fits : (a : Around) (variable : _) (of : TypeId) → (seen_kind a (kinds.VarOf variable) of).fits ≡ is_variable a variable of
var_of_fits a variable of = ap (λ (k : TypeId → Seen). (k of).fits) (var_of_is a variable)

pub var_of_form : (a : Around) (variable : _) (of : TypeId) → (seen_kind a (kinds.VarOf variable) of).form ≡ forms.Place
var_of_form a variable of = ap (λ (k : TypeId → Seen). (k of).form) (var_of_is a variable)

pub var_of_part : (a : Around) (variable : _) (of : TypeId) (parts : List TypeId) → (seen_kind a (kinds.VarOf variable) of).fits_part parts ≡ false
var_of_part a variable of parts = ap (λ (k : TypeId → Seen). (k of).fits_part parts) (var_of_is a variable)

function_of_is : (a : Around) (function : _) → seen_kind a (kinds.FunctionOf function) ≡ kind_layer_at a (layers.ExprKind-F.FunctionOf function)
function_of_is a function = ap (seen_kind a) (sym (kinds.rolls-FunctionOf function)) ∙ kind_is a (layers.ExprKind-F.FunctionOf function)

pub function_of_fits : (a : Around) (function : _) (of : TypeId) → (seen_kind a (kinds.FunctionOf function) of).fits ≡ is_id (function_type a function) of
function_of_fits a function of = ap (λ (k : TypeId → Seen). (k of).fits) (function_of_is a function)

pub function_of_form : (a : Around) (function : _) (of : TypeId) → (seen_kind a (kinds.FunctionOf function) of).form ≡ forms.Other
function_of_form a function of = ap (λ (k : TypeId → Seen). (k of).form) (function_of_is a function)

pub function_of_part : (a : Around) (function : _) (of : TypeId) (parts : List TypeId) → (seen_kind a (kinds.FunctionOf function) of).fits_part parts ≡ false
function_of_part a function of parts = ap (λ (k : TypeId → Seen). (k of).fits_part parts) (function_of_is a function)

literal_of_is : (a : Around) (function : _) → seen_kind a (kinds.LiteralOf function) ≡ kind_layer_at a (layers.ExprKind-F.LiteralOf function)
literal_of_is a function = ap (seen_kind a) (sym (kinds.rolls-LiteralOf function)) ∙ kind_is a (layers.ExprKind-F.LiteralOf function)

pub literal_of_fits : (a : Around) (function : _) (of : TypeId) → (seen_kind a (kinds.LiteralOf function) of).fits ≡ is_id (literal_type a function) of
literal_of_fits a function of = ap (λ (k : TypeId → Seen). (k of).fits) (literal_of_is a function)

pub literal_of_form : (a : Around) (function : _) (of : TypeId) → (seen_kind a (kinds.LiteralOf function) of).form ≡ forms.Other
literal_of_form a function of = ap (λ (k : TypeId → Seen). (k of).form) (literal_of_is a function)

pub literal_of_part : (a : Around) (function : _) (of : TypeId) (parts : List TypeId) → (seen_kind a (kinds.LiteralOf function) of).fits_part parts ≡ false
literal_of_part a function of parts = ap (λ (k : TypeId → Seen). (k of).fits_part parts) (literal_of_is a function)

method_value_is : (a : Around) (receiver method : _) → seen_kind a (kinds.MethodValue receiver method) ≡ kind_layer_at a (layers.ExprKind-F.MethodValue receiver method)
method_value_is a receiver method = ap (seen_kind a) (sym (kinds.rolls-MethodValue receiver method)) ∙ kind_is a (layers.ExprKind-F.MethodValue receiver method)

pub method_value_fits : (a : Around) (receiver method : _) (of : TypeId) → (seen_kind a (kinds.MethodValue receiver method) of).fits ≡ fits_method a method receiver.value.of of && (seen a receiver.value).fits
method_value_fits a receiver method of = ap (λ (k : TypeId → Seen). (k of).fits) (method_value_is a receiver method) ∙ (λ i. fits_method a method (of_is a receiver.value i) of && (seen a receiver.value).fits)

pub method_value_form : (a : Around) (receiver method : _) (of : TypeId) → (seen_kind a (kinds.MethodValue receiver method) of).form ≡ forms.Other
method_value_form a receiver method of = ap (λ (k : TypeId → Seen). (k of).form) (method_value_is a receiver method)

pub method_value_part : (a : Around) (receiver method : _) (of : TypeId) (parts : List TypeId) → (seen_kind a (kinds.MethodValue receiver method) of).fits_part parts ≡ false
method_value_part a receiver method of parts = ap (λ (k : TypeId → Seen). (k of).fits_part parts) (method_value_is a receiver method)

method_expr_is : (a : Around) (receiver name owner : _) → seen_kind a (kinds.MethodExpr receiver name owner) ≡ kind_layer_at a (layers.ExprKind-F.MethodExpr receiver name owner)
method_expr_is a receiver name owner = ap (seen_kind a) (sym (kinds.rolls-MethodExpr receiver name owner)) ∙ kind_is a (layers.ExprKind-F.MethodExpr receiver name owner)

pub method_expr_fits : (a : Around) (receiver name owner : _) (of : TypeId) → (seen_kind a (kinds.MethodExpr receiver name owner) of).fits ≡ fits_method_expression a receiver name owner of
method_expr_fits a receiver name owner of = ap (λ (k : TypeId → Seen). (k of).fits) (method_expr_is a receiver name owner)

pub method_expr_form : (a : Around) (receiver name owner : _) (of : TypeId) → (seen_kind a (kinds.MethodExpr receiver name owner) of).form ≡ forms.Other
method_expr_form a receiver name owner of = ap (λ (k : TypeId → Seen). (k of).form) (method_expr_is a receiver name owner)

pub method_expr_part : (a : Around) (receiver name owner : _) (of : TypeId) (parts : List TypeId) → (seen_kind a (kinds.MethodExpr receiver name owner) of).fits_part parts ≡ false
method_expr_part a receiver name owner of parts = ap (λ (k : TypeId → Seen). (k of).fits_part parts) (method_expr_is a receiver name owner)

field_of_is : (a : Around) (operand field : _) → seen_kind a (kinds.FieldOf operand field) ≡ kind_layer_at a (layers.ExprKind-F.FieldOf operand field)
field_of_is a operand field = ap (seen_kind a) (sym (kinds.rolls-FieldOf operand field)) ∙ kind_is a (layers.ExprKind-F.FieldOf operand field)

pub field_of_fits : (a : Around) (operand field : _) (of : TypeId) → (seen_kind a (kinds.FieldOf operand field) of).fits ≡ fits_field a field operand.value.of of && (seen a operand.value).fits
field_of_fits a operand field of = ap (λ (k : TypeId → Seen). (k of).fits) (field_of_is a operand field) ∙ (λ i. fits_field a field (of_is a operand.value i) of && (seen a operand.value).fits)

pub field_of_form : (a : Around) (operand field : _) (of : TypeId) → (seen_kind a (kinds.FieldOf operand field) of).form ≡ place_if (is_place (seen a operand.value).form)
field_of_form a operand field of = ap (λ (k : TypeId → Seen). (k of).form) (field_of_is a operand field)

pub field_of_part : (a : Around) (operand field : _) (of : TypeId) (parts : List TypeId) → (seen_kind a (kinds.FieldOf operand field) of).fits_part parts ≡ false
field_of_part a operand field of parts = ap (λ (k : TypeId → Seen). (k of).fits_part parts) (field_of_is a operand field)

index_of_is : (a : Around) (base operand index : _) → seen_kind a (kinds.IndexOf base operand index) ≡ kind_layer_at a (layers.ExprKind-F.IndexOf base operand index)
index_of_is a base operand index = ap (seen_kind a) (sym (kinds.rolls-IndexOf base operand index)) ∙ kind_is a (layers.ExprKind-F.IndexOf base operand index)

pub index_of_fits : (a : Around) (base operand index : _) (of : TypeId) → (seen_kind a (kinds.IndexOf base operand index) of).fits ≡ (fits_element a base operand.value.of of && is_integer_type a.program.types index.value.of) && ((seen a operand.value).fits && (seen a index.value).fits)
index_of_fits a base operand index of = ap (λ (k : TypeId → Seen). (k of).fits) (index_of_is a base operand index) ∙ (λ i. (fits_element a base (of_is a operand.value i) of && is_integer_type a.program.types (of_is a index.value i)) && ((seen a operand.value).fits && (seen a index.value).fits))

pub index_of_form : (a : Around) (base operand index : _) (of : TypeId) → (seen_kind a (kinds.IndexOf base operand index) of).form ≡ part.element_form base (seen a operand.value).form
index_of_form a base operand index of = ap (λ (k : TypeId → Seen). (k of).form) (index_of_is a base operand index) ∙ index_same a base (seen a operand.value).form

pub index_of_part : (a : Around) (base operand index : _) (of : TypeId) (parts : List TypeId) → (seen_kind a (kinds.IndexOf base operand index) of).fits_part parts ≡ false
index_of_part a base operand index of parts = ap (λ (k : TypeId → Seen). (k of).fits_part parts) (index_of_is a base operand index)

map_index_is : (a : Around) (table key comma_ok : _) → seen_kind a (kinds.MapIndex table key comma_ok) ≡ kind_layer_at a (layers.ExprKind-F.MapIndex table key comma_ok)
map_index_is a table key comma_ok = ap (seen_kind a) (sym (kinds.rolls-MapIndex table key comma_ok)) ∙ kind_is a (layers.ExprKind-F.MapIndex table key comma_ok)

pub map_index_fits : (a : Around) (table key comma_ok : _) (of : TypeId) → (seen_kind a (kinds.MapIndex table key comma_ok) of).fits ≡ fits_map_index a table.value.of key.value.of comma_ok of && ((seen a table.value).fits && (seen a key.value).fits)
map_index_fits a table key comma_ok of = ap (λ (k : TypeId → Seen). (k of).fits) (map_index_is a table key comma_ok) ∙ (λ i. fits_map_index a (of_is a table.value i) (of_is a key.value i) comma_ok of && ((seen a table.value).fits && (seen a key.value).fits))

pub map_index_form : (a : Around) (table key comma_ok : _) (of : TypeId) → (seen_kind a (kinds.MapIndex table key comma_ok) of).form ≡ part.entry_form comma_ok
map_index_form a table key comma_ok of = ap (λ (k : TypeId → Seen). (k of).form) (map_index_is a table key comma_ok) ∙ entry_same a comma_ok

pub map_index_part : (a : Around) (table key comma_ok : _) (of : TypeId) (parts : List TypeId) → (seen_kind a (kinds.MapIndex table key comma_ok) of).fits_part parts ≡ false
map_index_part a table key comma_ok of parts = ap (λ (k : TypeId → Seen). (k of).fits_part parts) (map_index_is a table key comma_ok)

deref_is : (a : Around) (operand : _) → seen_kind a (kinds.Deref operand) ≡ kind_layer_at a (layers.ExprKind-F.Deref operand)
deref_is a operand = ap (seen_kind a) (sym (kinds.rolls-Deref operand)) ∙ kind_is a (layers.ExprKind-F.Deref operand)

pub deref_fits : (a : Around) (operand : _) (of : TypeId) → (seen_kind a (kinds.Deref operand) of).fits ≡ fits_deref a operand.value.of of && (seen a operand.value).fits
deref_fits a operand of = ap (λ (k : TypeId → Seen). (k of).fits) (deref_is a operand) ∙ (λ i. fits_deref a (of_is a operand.value i) of && (seen a operand.value).fits)

pub deref_form : (a : Around) (operand : _) (of : TypeId) → (seen_kind a (kinds.Deref operand) of).form ≡ forms.Place
deref_form a operand of = ap (λ (k : TypeId → Seen). (k of).form) (deref_is a operand)

pub deref_part : (a : Around) (operand : _) (of : TypeId) (parts : List TypeId) → (seen_kind a (kinds.Deref operand) of).fits_part parts ≡ false
deref_part a operand of parts = ap (λ (k : TypeId → Seen). (k of).fits_part parts) (deref_is a operand)

address_of_is : (a : Around) (operand : _) → seen_kind a (kinds.AddressOf operand) ≡ kind_layer_at a (layers.ExprKind-F.AddressOf operand)
address_of_is a operand = ap (seen_kind a) (sym (kinds.rolls-AddressOf operand)) ∙ kind_is a (layers.ExprKind-F.AddressOf operand)

pub address_of_fits : (a : Around) (operand : _) (of : TypeId) → (seen_kind a (kinds.AddressOf operand) of).fits ≡ (has_address (seen a operand.value).form && is_pointer_to (term a of) operand.value.of) && (seen a operand.value).fits
address_of_fits a operand of = ap (λ (k : TypeId → Seen). (k of).fits) (address_of_is a operand) ∙ (λ i. (has_address (seen a operand.value).form && is_pointer_to (term a of) (of_is a operand.value i)) && (seen a operand.value).fits)

pub address_of_form : (a : Around) (operand : _) (of : TypeId) → (seen_kind a (kinds.AddressOf operand) of).form ≡ forms.Other
address_of_form a operand of = ap (λ (k : TypeId → Seen). (k of).form) (address_of_is a operand)

pub address_of_part : (a : Around) (operand : _) (of : TypeId) (parts : List TypeId) → (seen_kind a (kinds.AddressOf operand) of).fits_part parts ≡ false
address_of_part a operand of parts = ap (λ (k : TypeId → Seen). (k of).fits_part parts) (address_of_is a operand)

unary_of_is : (a : Around) (op operand : _) → seen_kind a (kinds.UnaryOf op operand) ≡ kind_layer_at a (layers.ExprKind-F.UnaryOf op operand)
unary_of_is a op operand = ap (seen_kind a) (sym (kinds.rolls-UnaryOf op operand)) ∙ kind_is a (layers.ExprKind-F.UnaryOf op operand)

pub unary_of_fits : (a : Around) (op operand : _) (of : TypeId) → (seen_kind a (kinds.UnaryOf op operand) of).fits ≡ fits_unary a op operand.value.of of && (seen a operand.value).fits
unary_of_fits a op operand of = ap (λ (k : TypeId → Seen). (k of).fits) (unary_of_is a op operand) ∙ (λ i. fits_unary a op (of_is a operand.value i) of && (seen a operand.value).fits)

pub unary_of_form : (a : Around) (op operand : _) (of : TypeId) → (seen_kind a (kinds.UnaryOf op operand) of).form ≡ forms.Other
unary_of_form a op operand of = ap (λ (k : TypeId → Seen). (k of).form) (unary_of_is a op operand)

pub unary_of_part : (a : Around) (op operand : _) (of : TypeId) (parts : List TypeId) → (seen_kind a (kinds.UnaryOf op operand) of).fits_part parts ≡ false
unary_of_part a op operand of parts = ap (λ (k : TypeId → Seen). (k of).fits_part parts) (unary_of_is a op operand)

binary_of_is : (a : Around) (op left right : _) → seen_kind a (kinds.BinaryOf op left right) ≡ kind_layer_at a (layers.ExprKind-F.BinaryOf op left right)
binary_of_is a op left right = ap (seen_kind a) (sym (kinds.rolls-BinaryOf op left right)) ∙ kind_is a (layers.ExprKind-F.BinaryOf op left right)

pub binary_of_fits : (a : Around) (op left right : _) (of : TypeId) → (seen_kind a (kinds.BinaryOf op left right) of).fits ≡ fits_binary a op left.value.of right.value.of of && ((seen a left.value).fits && (seen a right.value).fits)
binary_of_fits a op left right of = ap (λ (k : TypeId → Seen). (k of).fits) (binary_of_is a op left right) ∙ (λ i. fits_binary a op (of_is a left.value i) (of_is a right.value i) of && ((seen a left.value).fits && (seen a right.value).fits))

pub binary_of_form : (a : Around) (op left right : _) (of : TypeId) → (seen_kind a (kinds.BinaryOf op left right) of).form ≡ forms.Other
binary_of_form a op left right of = ap (λ (k : TypeId → Seen). (k of).form) (binary_of_is a op left right)

pub binary_of_part : (a : Around) (op left right : _) (of : TypeId) (parts : List TypeId) → (seen_kind a (kinds.BinaryOf op left right) of).fits_part parts ≡ false
binary_of_part a op left right of parts = ap (λ (k : TypeId → Seen). (k of).fits_part parts) (binary_of_is a op left right)

compare_of_is : (a : Around) (op left right : _) → seen_kind a (kinds.CompareOf op left right) ≡ kind_layer_at a (layers.ExprKind-F.CompareOf op left right)
compare_of_is a op left right = ap (seen_kind a) (sym (kinds.rolls-CompareOf op left right)) ∙ kind_is a (layers.ExprKind-F.CompareOf op left right)

pub compare_of_fits : (a : Around) (op left right : _) (of : TypeId) → (seen_kind a (kinds.CompareOf op left right) of).fits ≡ fits_comparison a op (seen a left.value) (seen a right.value) of && ((seen a left.value).fits && (seen a right.value).fits)
compare_of_fits a op left right of = ap (λ (k : TypeId → Seen). (k of).fits) (compare_of_is a op left right)

pub compare_of_form : (a : Around) (op left right : _) (of : TypeId) → (seen_kind a (kinds.CompareOf op left right) of).form ≡ forms.Other
compare_of_form a op left right of = ap (λ (k : TypeId → Seen). (k of).form) (compare_of_is a op left right)

pub compare_of_part : (a : Around) (op left right : _) (of : TypeId) (parts : List TypeId) → (seen_kind a (kinds.CompareOf op left right) of).fits_part parts ≡ false
compare_of_part a op left right of parts = ap (λ (k : TypeId → Seen). (k of).fits_part parts) (compare_of_is a op left right)

and_also_is : (a : Around) (left right : _) → seen_kind a (kinds.AndAlso left right) ≡ kind_layer_at a (layers.ExprKind-F.AndAlso left right)
and_also_is a left right = ap (seen_kind a) (sym (kinds.rolls-AndAlso left right)) ∙ kind_is a (layers.ExprKind-F.AndAlso left right)

pub and_also_fits : (a : Around) (left right : _) (of : TypeId) → (seen_kind a (kinds.AndAlso left right) of).fits ≡ fits_logic a left.value.of right.value.of of && ((seen a left.value).fits && (seen a right.value).fits)
and_also_fits a left right of = ap (λ (k : TypeId → Seen). (k of).fits) (and_also_is a left right) ∙ (λ i. fits_logic a (of_is a left.value i) (of_is a right.value i) of && ((seen a left.value).fits && (seen a right.value).fits))

pub and_also_form : (a : Around) (left right : _) (of : TypeId) → (seen_kind a (kinds.AndAlso left right) of).form ≡ forms.Other
and_also_form a left right of = ap (λ (k : TypeId → Seen). (k of).form) (and_also_is a left right)

pub and_also_part : (a : Around) (left right : _) (of : TypeId) (parts : List TypeId) → (seen_kind a (kinds.AndAlso left right) of).fits_part parts ≡ false
and_also_part a left right of parts = ap (λ (k : TypeId → Seen). (k of).fits_part parts) (and_also_is a left right)

or_else_is : (a : Around) (left right : _) → seen_kind a (kinds.OrElse left right) ≡ kind_layer_at a (layers.ExprKind-F.OrElse left right)
or_else_is a left right = ap (seen_kind a) (sym (kinds.rolls-OrElse left right)) ∙ kind_is a (layers.ExprKind-F.OrElse left right)

pub or_else_fits : (a : Around) (left right : _) (of : TypeId) → (seen_kind a (kinds.OrElse left right) of).fits ≡ fits_logic a left.value.of right.value.of of && ((seen a left.value).fits && (seen a right.value).fits)
or_else_fits a left right of = ap (λ (k : TypeId → Seen). (k of).fits) (or_else_is a left right) ∙ (λ i. fits_logic a (of_is a left.value i) (of_is a right.value i) of && ((seen a left.value).fits && (seen a right.value).fits))

pub or_else_form : (a : Around) (left right : _) (of : TypeId) → (seen_kind a (kinds.OrElse left right) of).form ≡ forms.Other
or_else_form a left right of = ap (λ (k : TypeId → Seen). (k of).form) (or_else_is a left right)

pub or_else_part : (a : Around) (left right : _) (of : TypeId) (parts : List TypeId) → (seen_kind a (kinds.OrElse left right) of).fits_part parts ≡ false
or_else_part a left right of parts = ap (λ (k : TypeId → Seen). (k of).fits_part parts) (or_else_is a left right)

receive_is : (a : Around) (channel comma_ok : _) → seen_kind a (kinds.Receive channel comma_ok) ≡ kind_layer_at a (layers.ExprKind-F.Receive channel comma_ok)
receive_is a channel comma_ok = ap (seen_kind a) (sym (kinds.rolls-Receive channel comma_ok)) ∙ kind_is a (layers.ExprKind-F.Receive channel comma_ok)

pub receive_fits : (a : Around) (channel comma_ok : _) (of : TypeId) → (seen_kind a (kinds.Receive channel comma_ok) of).fits ≡ fits_receive a channel.value.of comma_ok of && (seen a channel.value).fits
receive_fits a channel comma_ok of = ap (λ (k : TypeId → Seen). (k of).fits) (receive_is a channel comma_ok) ∙ (λ i. fits_receive a (of_is a channel.value i) comma_ok of && (seen a channel.value).fits)

pub receive_form : (a : Around) (channel comma_ok : _) (of : TypeId) → (seen_kind a (kinds.Receive channel comma_ok) of).form ≡ forms.Other
receive_form a channel comma_ok of = ap (λ (k : TypeId → Seen). (k of).form) (receive_is a channel comma_ok)

pub receive_part : (a : Around) (channel comma_ok : _) (of : TypeId) (parts : List TypeId) → (seen_kind a (kinds.Receive channel comma_ok) of).fits_part parts ≡ false
receive_part a channel comma_ok of parts = ap (λ (k : TypeId → Seen). (k of).fits_part parts) (receive_is a channel comma_ok)

call_of_is : (a : Around) (callee arguments : _) → seen_kind a (kinds.CallOf callee arguments) ≡ kind_layer_at a (layers.ExprKind-F.CallOf callee arguments)
call_of_is a callee arguments = ap (seen_kind a) (sym (kinds.rolls-CallOf callee arguments)) ∙ kind_is a (layers.ExprKind-F.CallOf callee arguments)

pub call_of_fits : (a : Around) (callee arguments : _) (of : TypeId) → (seen_kind a (kinds.CallOf callee arguments) of).fits ≡ fits_call_of a (seen_callee a callee).signature (seen_values a arguments).types of && ((seen_callee a callee).fits && (seen_values a arguments).fits)
call_of_fits a callee arguments of = ap (λ (k : TypeId → Seen). (k of).fits) (call_of_is a callee arguments)

pub call_of_form : (a : Around) (callee arguments : _) (of : TypeId) → (seen_kind a (kinds.CallOf callee arguments) of).form ≡ forms.Call
call_of_form a callee arguments of = ap (λ (k : TypeId → Seen). (k of).form) (call_of_is a callee arguments)

pub call_of_part : (a : Around) (callee arguments : _) (of : TypeId) (parts : List TypeId) → (seen_kind a (kinds.CallOf callee arguments) of).fits_part parts ≡ false
call_of_part a callee arguments of parts = ap (λ (k : TypeId → Seen). (k of).fits_part parts) (call_of_is a callee arguments)

convert_to_is : (a : Around) (operand : _) → seen_kind a (kinds.ConvertTo operand) ≡ kind_layer_at a (layers.ExprKind-F.ConvertTo operand)
convert_to_is a operand = ap (seen_kind a) (sym (kinds.rolls-ConvertTo operand)) ∙ kind_is a (layers.ExprKind-F.ConvertTo operand)

pub convert_to_fits : (a : Around) (operand : _) (of : TypeId) → (seen_kind a (kinds.ConvertTo operand) of).fits ≡ fits_conversion a operand.value.of of && (seen a operand.value).fits
convert_to_fits a operand of = ap (λ (k : TypeId → Seen). (k of).fits) (convert_to_is a operand) ∙ (λ i. fits_conversion a (of_is a operand.value i) of && (seen a operand.value).fits)

pub convert_to_form : (a : Around) (operand : _) (of : TypeId) → (seen_kind a (kinds.ConvertTo operand) of).form ≡ forms.Other
convert_to_form a operand of = ap (λ (k : TypeId → Seen). (k of).form) (convert_to_is a operand)

pub convert_to_part : (a : Around) (operand : _) (of : TypeId) (parts : List TypeId) → (seen_kind a (kinds.ConvertTo operand) of).fits_part parts ≡ fits_conversion a operand.value.of of && (seen a operand.value).fits_part parts
convert_to_part a operand of parts = ap (λ (k : TypeId → Seen). (k of).fits_part parts) (convert_to_is a operand) ∙ (λ i. fits_conversion a (of_is a operand.value i) of && (seen a operand.value).fits_part parts)

to_interface_is : (a : Around) (operand : _) → seen_kind a (kinds.ToInterface operand) ≡ kind_layer_at a (layers.ExprKind-F.ToInterface operand)
to_interface_is a operand = ap (seen_kind a) (sym (kinds.rolls-ToInterface operand)) ∙ kind_is a (layers.ExprKind-F.ToInterface operand)

pub to_interface_fits : (a : Around) (operand : _) (of : TypeId) → (seen_kind a (kinds.ToInterface operand) of).fits ≡ fits_boxing a operand.value.of of && (seen a operand.value).fits
to_interface_fits a operand of = ap (λ (k : TypeId → Seen). (k of).fits) (to_interface_is a operand) ∙ (λ i. fits_boxing a (of_is a operand.value i) of && (seen a operand.value).fits)

pub to_interface_form : (a : Around) (operand : _) (of : TypeId) → (seen_kind a (kinds.ToInterface operand) of).form ≡ forms.Other
to_interface_form a operand of = ap (λ (k : TypeId → Seen). (k of).form) (to_interface_is a operand)

pub to_interface_part : (a : Around) (operand : _) (of : TypeId) (parts : List TypeId) → (seen_kind a (kinds.ToInterface operand) of).fits_part parts ≡ fits_boxing a operand.value.of of && (seen a operand.value).fits_part parts
to_interface_part a operand of parts = ap (λ (k : TypeId → Seen). (k of).fits_part parts) (to_interface_is a operand) ∙ (λ i. fits_boxing a (of_is a operand.value i) of && (seen a operand.value).fits_part parts)

assert_to_is : (a : Around) (operand to comma_ok : _) → seen_kind a (kinds.AssertTo operand to comma_ok) ≡ kind_layer_at a (layers.ExprKind-F.AssertTo operand to comma_ok)
assert_to_is a operand to comma_ok = ap (seen_kind a) (sym (kinds.rolls-AssertTo operand to comma_ok)) ∙ kind_is a (layers.ExprKind-F.AssertTo operand to comma_ok)

pub assert_to_fits : (a : Around) (operand to comma_ok : _) (of : TypeId) → (seen_kind a (kinds.AssertTo operand to comma_ok) of).fits ≡ fits_assertion a operand.value.of to comma_ok of && (seen a operand.value).fits
assert_to_fits a operand to comma_ok of = ap (λ (k : TypeId → Seen). (k of).fits) (assert_to_is a operand to comma_ok) ∙ (λ i. fits_assertion a (of_is a operand.value i) to comma_ok of && (seen a operand.value).fits)

pub assert_to_form : (a : Around) (operand to comma_ok : _) (of : TypeId) → (seen_kind a (kinds.AssertTo operand to comma_ok) of).form ≡ forms.Other
assert_to_form a operand to comma_ok of = ap (λ (k : TypeId → Seen). (k of).form) (assert_to_is a operand to comma_ok)

pub assert_to_part : (a : Around) (operand to comma_ok : _) (of : TypeId) (parts : List TypeId) → (seen_kind a (kinds.AssertTo operand to comma_ok) of).fits_part parts ≡ false
assert_to_part a operand to comma_ok of parts = ap (λ (k : TypeId → Seen). (k of).fits_part parts) (assert_to_is a operand to comma_ok)

composite_of_is : (a : Around) (elements : _) → seen_kind a (kinds.CompositeOf elements) ≡ kind_layer_at a (layers.ExprKind-F.CompositeOf elements)
composite_of_is a elements = ap (seen_kind a) (sym (kinds.rolls-CompositeOf elements)) ∙ kind_is a (layers.ExprKind-F.CompositeOf elements)

pub composite_of_fits : (a : Around) (elements : _) (of : TypeId) → (seen_kind a (kinds.CompositeOf elements) of).fits ≡ (seen_elements a elements).fit (λ x. x.fits) of
composite_of_fits a elements of = ap (λ (k : TypeId → Seen). (k of).fits) (composite_of_is a elements)

pub composite_of_form : (a : Around) (elements : _) (of : TypeId) → (seen_kind a (kinds.CompositeOf elements) of).form ≡ forms.Composite
composite_of_form a elements of = ap (λ (k : TypeId → Seen). (k of).form) (composite_of_is a elements)

pub composite_of_part : (a : Around) (elements : _) (of : TypeId) (parts : List TypeId) → (seen_kind a (kinds.CompositeOf elements) of).fits_part parts ≡ is_slice (under a of) && (seen_elements a elements).fit (λ x. x.fits_part parts) of
composite_of_part a elements of parts = ap (λ (k : TypeId → Seen). (k of).fits_part parts) (composite_of_is a elements)

part_of_is : (a : Around) (part : _) → seen_kind a (kinds.PartOf part) ≡ kind_layer_at a (layers.ExprKind-F.PartOf part)
part_of_is a part = ap (seen_kind a) (sym (kinds.rolls-PartOf part)) ∙ kind_is a (layers.ExprKind-F.PartOf part)

pub part_of_fits : (a : Around) (part : _) (of : TypeId) → (seen_kind a (kinds.PartOf part) of).fits ≡ false
part_of_fits a part of = ap (λ (k : TypeId → Seen). (k of).fits) (part_of_is a part)

pub part_of_form : (a : Around) (part : _) (of : TypeId) → (seen_kind a (kinds.PartOf part) of).form ≡ forms.Other
part_of_form a part of = ap (λ (k : TypeId → Seen). (k of).form) (part_of_is a part)

pub part_of_part : (a : Around) (part : _) (of : TypeId) (parts : List TypeId) → (seen_kind a (kinds.PartOf part) of).fits_part parts ≡ is_id (slice_get parts part) of
part_of_part a part of parts = ap (λ (k : TypeId → Seen). (k of).fits_part parts) (part_of_is a part)

-- a slice expression by the places that are left out

pub slice_of_fits : (a : Around) (base operand low high max : _) (of : TypeId) → (seen_kind a (kinds.SliceOf base operand low high max) of).fits ≡ fits_sliced a base operand.value.of of && ((seen a operand.value).fits && (bound_fits a low && (bound_fits a high && (bound_fits a max && (not (part.is_text_base base) || not (is_some max))))))
slice_of_fits a base operand None None None of = ap (λ (k : TypeId → Seen). (k of).fits) (ap (seen_kind a) (sym (kinds.rolls-SliceOf base operand None None None)) ∙ kind_is a (layers.ExprKind-F.SliceOf base operand None None None)) ∙ (λ i. fits_sliced a base (of_is a operand.value i) of && ((seen a operand.value).fits && (bound_fits a None && (bound_fits a None && (bound_fits a None && (not (text_same a base i) || not (is_some {T = Box TypedExpr} None)))))))
slice_of_fits a base operand None None (Some m) of = ap (λ (k : TypeId → Seen). (k of).fits) (ap (seen_kind a) (sym (kinds.rolls-SliceOf base operand None None (Some m))) ∙ kind_is a (layers.ExprKind-F.SliceOf base operand None None (Some m))) ∙ (λ i. fits_sliced a base (of_is a operand.value i) of && ((seen a operand.value).fits && (bound_fits a None && (bound_fits a None && (bound_fits a (Some m) && (not (text_same a base i) || not (is_some {T = Box TypedExpr} (Some m))))))))
slice_of_fits a base operand None (Some h) None of = ap (λ (k : TypeId → Seen). (k of).fits) (ap (seen_kind a) (sym (kinds.rolls-SliceOf base operand None (Some h) None)) ∙ kind_is a (layers.ExprKind-F.SliceOf base operand None (Some h) None)) ∙ (λ i. fits_sliced a base (of_is a operand.value i) of && ((seen a operand.value).fits && (bound_fits a None && (bound_fits a (Some h) && (bound_fits a None && (not (text_same a base i) || not (is_some {T = Box TypedExpr} None)))))))
slice_of_fits a base operand None (Some h) (Some m) of = ap (λ (k : TypeId → Seen). (k of).fits) (ap (seen_kind a) (sym (kinds.rolls-SliceOf base operand None (Some h) (Some m))) ∙ kind_is a (layers.ExprKind-F.SliceOf base operand None (Some h) (Some m))) ∙ (λ i. fits_sliced a base (of_is a operand.value i) of && ((seen a operand.value).fits && (bound_fits a None && (bound_fits a (Some h) && (bound_fits a (Some m) && (not (text_same a base i) || not (is_some {T = Box TypedExpr} (Some m))))))))
slice_of_fits a base operand (Some l) None None of = ap (λ (k : TypeId → Seen). (k of).fits) (ap (seen_kind a) (sym (kinds.rolls-SliceOf base operand (Some l) None None)) ∙ kind_is a (layers.ExprKind-F.SliceOf base operand (Some l) None None)) ∙ (λ i. fits_sliced a base (of_is a operand.value i) of && ((seen a operand.value).fits && (bound_fits a (Some l) && (bound_fits a None && (bound_fits a None && (not (text_same a base i) || not (is_some {T = Box TypedExpr} None)))))))
slice_of_fits a base operand (Some l) None (Some m) of = ap (λ (k : TypeId → Seen). (k of).fits) (ap (seen_kind a) (sym (kinds.rolls-SliceOf base operand (Some l) None (Some m))) ∙ kind_is a (layers.ExprKind-F.SliceOf base operand (Some l) None (Some m))) ∙ (λ i. fits_sliced a base (of_is a operand.value i) of && ((seen a operand.value).fits && (bound_fits a (Some l) && (bound_fits a None && (bound_fits a (Some m) && (not (text_same a base i) || not (is_some {T = Box TypedExpr} (Some m))))))))
slice_of_fits a base operand (Some l) (Some h) None of = ap (λ (k : TypeId → Seen). (k of).fits) (ap (seen_kind a) (sym (kinds.rolls-SliceOf base operand (Some l) (Some h) None)) ∙ kind_is a (layers.ExprKind-F.SliceOf base operand (Some l) (Some h) None)) ∙ (λ i. fits_sliced a base (of_is a operand.value i) of && ((seen a operand.value).fits && (bound_fits a (Some l) && (bound_fits a (Some h) && (bound_fits a None && (not (text_same a base i) || not (is_some {T = Box TypedExpr} None)))))))
slice_of_fits a base operand (Some l) (Some h) (Some m) of = ap (λ (k : TypeId → Seen). (k of).fits) (ap (seen_kind a) (sym (kinds.rolls-SliceOf base operand (Some l) (Some h) (Some m))) ∙ kind_is a (layers.ExprKind-F.SliceOf base operand (Some l) (Some h) (Some m))) ∙ (λ i. fits_sliced a base (of_is a operand.value i) of && ((seen a operand.value).fits && (bound_fits a (Some l) && (bound_fits a (Some h) && (bound_fits a (Some m) && (not (text_same a base i) || not (is_some {T = Box TypedExpr} (Some m))))))))

pub slice_of_form : (a : Around) (base operand low high max : _) (of : TypeId) → (seen_kind a (kinds.SliceOf base operand low high max) of).form ≡ forms.Other
slice_of_form a base operand None None None of = ap (λ (k : TypeId → Seen). (k of).form) (ap (seen_kind a) (sym (kinds.rolls-SliceOf base operand None None None)) ∙ kind_is a (layers.ExprKind-F.SliceOf base operand None None None))
slice_of_form a base operand None None (Some m) of = ap (λ (k : TypeId → Seen). (k of).form) (ap (seen_kind a) (sym (kinds.rolls-SliceOf base operand None None (Some m))) ∙ kind_is a (layers.ExprKind-F.SliceOf base operand None None (Some m)))
slice_of_form a base operand None (Some h) None of = ap (λ (k : TypeId → Seen). (k of).form) (ap (seen_kind a) (sym (kinds.rolls-SliceOf base operand None (Some h) None)) ∙ kind_is a (layers.ExprKind-F.SliceOf base operand None (Some h) None))
slice_of_form a base operand None (Some h) (Some m) of = ap (λ (k : TypeId → Seen). (k of).form) (ap (seen_kind a) (sym (kinds.rolls-SliceOf base operand None (Some h) (Some m))) ∙ kind_is a (layers.ExprKind-F.SliceOf base operand None (Some h) (Some m)))
slice_of_form a base operand (Some l) None None of = ap (λ (k : TypeId → Seen). (k of).form) (ap (seen_kind a) (sym (kinds.rolls-SliceOf base operand (Some l) None None)) ∙ kind_is a (layers.ExprKind-F.SliceOf base operand (Some l) None None))
slice_of_form a base operand (Some l) None (Some m) of = ap (λ (k : TypeId → Seen). (k of).form) (ap (seen_kind a) (sym (kinds.rolls-SliceOf base operand (Some l) None (Some m))) ∙ kind_is a (layers.ExprKind-F.SliceOf base operand (Some l) None (Some m)))
slice_of_form a base operand (Some l) (Some h) None of = ap (λ (k : TypeId → Seen). (k of).form) (ap (seen_kind a) (sym (kinds.rolls-SliceOf base operand (Some l) (Some h) None)) ∙ kind_is a (layers.ExprKind-F.SliceOf base operand (Some l) (Some h) None))
slice_of_form a base operand (Some l) (Some h) (Some m) of = ap (λ (k : TypeId → Seen). (k of).form) (ap (seen_kind a) (sym (kinds.rolls-SliceOf base operand (Some l) (Some h) (Some m))) ∙ kind_is a (layers.ExprKind-F.SliceOf base operand (Some l) (Some h) (Some m)))

pub slice_of_part : (a : Around) (base operand low high max : _) (of : TypeId) (parts : List TypeId) → (seen_kind a (kinds.SliceOf base operand low high max) of).fits_part parts ≡ false
slice_of_part a base operand None None None of parts = ap (λ (k : TypeId → Seen). (k of).fits_part parts) (ap (seen_kind a) (sym (kinds.rolls-SliceOf base operand None None None)) ∙ kind_is a (layers.ExprKind-F.SliceOf base operand None None None))
slice_of_part a base operand None None (Some m) of parts = ap (λ (k : TypeId → Seen). (k of).fits_part parts) (ap (seen_kind a) (sym (kinds.rolls-SliceOf base operand None None (Some m))) ∙ kind_is a (layers.ExprKind-F.SliceOf base operand None None (Some m)))
slice_of_part a base operand None (Some h) None of parts = ap (λ (k : TypeId → Seen). (k of).fits_part parts) (ap (seen_kind a) (sym (kinds.rolls-SliceOf base operand None (Some h) None)) ∙ kind_is a (layers.ExprKind-F.SliceOf base operand None (Some h) None))
slice_of_part a base operand None (Some h) (Some m) of parts = ap (λ (k : TypeId → Seen). (k of).fits_part parts) (ap (seen_kind a) (sym (kinds.rolls-SliceOf base operand None (Some h) (Some m))) ∙ kind_is a (layers.ExprKind-F.SliceOf base operand None (Some h) (Some m)))
slice_of_part a base operand (Some l) None None of parts = ap (λ (k : TypeId → Seen). (k of).fits_part parts) (ap (seen_kind a) (sym (kinds.rolls-SliceOf base operand (Some l) None None)) ∙ kind_is a (layers.ExprKind-F.SliceOf base operand (Some l) None None))
slice_of_part a base operand (Some l) None (Some m) of parts = ap (λ (k : TypeId → Seen). (k of).fits_part parts) (ap (seen_kind a) (sym (kinds.rolls-SliceOf base operand (Some l) None (Some m))) ∙ kind_is a (layers.ExprKind-F.SliceOf base operand (Some l) None (Some m)))
slice_of_part a base operand (Some l) (Some h) None of parts = ap (λ (k : TypeId → Seen). (k of).fits_part parts) (ap (seen_kind a) (sym (kinds.rolls-SliceOf base operand (Some l) (Some h) None)) ∙ kind_is a (layers.ExprKind-F.SliceOf base operand (Some l) (Some h) None))
slice_of_part a base operand (Some l) (Some h) (Some m) of parts = ap (λ (k : TypeId → Seen). (k of).fits_part parts) (ap (seen_kind a) (sym (kinds.rolls-SliceOf base operand (Some l) (Some h) (Some m))) ∙ kind_is a (layers.ExprKind-F.SliceOf base operand (Some l) (Some h) (Some m)))

all_fit_map : (a : Around) (xs : List TypedExpr) → all_fit (map (seen a) xs) ≡ list_all (λ x. (seen a x).fits) xs
all_fit_map a [] = refl
all_fit_map a (x ∷ xs) = ap (λ (b : Bool). (seen a x).fits && b) (all_fit_map a xs)

part_map : (a : Around) (types : List TypeId) (xs : List TypedExpr) → list_all (λ (x : Seen). x.fits_part types) (map (seen a) xs) ≡ list_all (λ x. (seen a x).fits_part types) xs
part_map a types [] = refl
part_map a types (x ∷ xs) = ap (λ (b : Bool). (seen a x).fits_part types && b) (part_map a types xs)

pub builtin_of_fits : (a : Around) (builtin form arguments spread : _) (of : TypeId) → (seen_kind a (kinds.BuiltinOf builtin form arguments spread) of).fits ≡ fits_built_in a builtin form spread (map typed_as arguments.items) of && list_all (λ x. (seen a x).fits) arguments.items
builtin_of_fits a builtin None arguments spread of = ap (λ (k : TypeId → Seen). (k of).fits) (ap (seen_kind a) (sym (kinds.rolls-BuiltinOf builtin None arguments spread)) ∙ kind_is a (layers.ExprKind-F.BuiltinOf builtin None arguments spread)) ∙ (λ i. fits_alike a (seen a) typed_as (of_is a) builtin None spread arguments.items of i && all_fit_map a arguments.items i)
builtin_of_fits a builtin (Some id) arguments spread of = ap (λ (k : TypeId → Seen). (k of).fits) (ap (seen_kind a) (sym (kinds.rolls-BuiltinOf builtin (Some id) arguments spread)) ∙ kind_is a (layers.ExprKind-F.BuiltinOf builtin (Some id) arguments spread)) ∙ (λ i. fits_alike a (seen a) typed_as (of_is a) builtin (Some id) spread arguments.items of i && all_fit_map a arguments.items i)

pub builtin_of_form : (a : Around) (builtin form arguments spread : _) (of : TypeId) → (seen_kind a (kinds.BuiltinOf builtin form arguments spread) of).form ≡ forms.Call
builtin_of_form a builtin None arguments spread of = ap (λ (k : TypeId → Seen). (k of).form) (ap (seen_kind a) (sym (kinds.rolls-BuiltinOf builtin None arguments spread)) ∙ kind_is a (layers.ExprKind-F.BuiltinOf builtin None arguments spread))
builtin_of_form a builtin (Some id) arguments spread of = ap (λ (k : TypeId → Seen). (k of).form) (ap (seen_kind a) (sym (kinds.rolls-BuiltinOf builtin (Some id) arguments spread)) ∙ kind_is a (layers.ExprKind-F.BuiltinOf builtin (Some id) arguments spread))

pub builtin_of_part : (a : Around) (builtin form arguments spread : _) (of : TypeId) (parts : List TypeId) → (seen_kind a (kinds.BuiltinOf builtin form arguments spread) of).fits_part parts ≡ false
builtin_of_part a builtin None arguments spread of parts = ap (λ (k : TypeId → Seen). (k of).fits_part parts) (ap (seen_kind a) (sym (kinds.rolls-BuiltinOf builtin None arguments spread)) ∙ kind_is a (layers.ExprKind-F.BuiltinOf builtin None arguments spread))
builtin_of_part a builtin (Some id) arguments spread of parts = ap (λ (k : TypeId → Seen). (k of).fits_part parts) (ap (seen_kind a) (sym (kinds.rolls-BuiltinOf builtin (Some id) arguments spread)) ∙ kind_is a (layers.ExprKind-F.BuiltinOf builtin (Some id) arguments spread))

pub ruleset fits_rules = (fits_is, const_of_fits, nil_of_fits, var_of_fits, function_of_fits, literal_of_fits, method_value_fits, method_expr_fits, field_of_fits, index_of_fits, map_index_fits, deref_fits, address_of_fits, unary_of_fits, binary_of_fits, compare_of_fits, and_also_fits, or_else_fits, receive_fits, call_of_fits, convert_to_fits, to_interface_fits, assert_to_fits, composite_of_fits, part_of_fits, slice_of_fits, builtin_of_fits)

pub ruleset form_rules = (form_is, const_of_form, nil_of_form, var_of_form, function_of_form, literal_of_form, method_value_form, method_expr_form, field_of_form, index_of_form, map_index_form, deref_form, address_of_form, unary_of_form, binary_of_form, compare_of_form, and_also_form, or_else_form, receive_form, call_of_form, convert_to_form, to_interface_form, assert_to_form, composite_of_form, part_of_form, slice_of_form, builtin_of_form)

pub ruleset part_rules = (part_is, const_of_part, nil_of_part, var_of_part, function_of_part, literal_of_part, method_value_part, method_expr_part, field_of_part, index_of_part, map_index_part, deref_part, address_of_part, unary_of_part, binary_of_part, compare_of_part, and_also_part, or_else_part, receive_part, call_of_part, convert_to_part, to_interface_part, assert_to_part, composite_of_part, part_of_part, slice_of_part, builtin_of_part)

-- ---- a callee by its form

function_is : (a : Around) (function : _) → seen_callee a (callees.Function function) ≡ callee_layer_at a (layers.Callee-F.Function function)
function_is a function = ap (seen_callee a) (sym (callees.rolls-Function function)) ∙ callee_is a (layers.Callee-F.Function function)

pub function_signature : (a : Around) (function : _) → (seen_callee a (callees.Function function)).signature ≡ type_signature a (function_type a function)
function_signature a function = ap (λ (c : SeenCallee). c.signature) (function_is a function)

pub function_fits : (a : Around) (function : _) → (seen_callee a (callees.Function function)).fits ≡ true
function_fits a function = ap (λ (c : SeenCallee). c.fits) (function_is a function)

literal_is : (a : Around) (function : _) → seen_callee a (callees.Literal function) ≡ callee_layer_at a (layers.Callee-F.Literal function)
literal_is a function = ap (seen_callee a) (sym (callees.rolls-Literal function)) ∙ callee_is a (layers.Callee-F.Literal function)

pub literal_signature : (a : Around) (function : _) → (seen_callee a (callees.Literal function)).signature ≡ type_signature a (literal_type a function)
literal_signature a function = ap (λ (c : SeenCallee). c.signature) (literal_is a function)

pub literal_fits : (a : Around) (function : _) → (seen_callee a (callees.Literal function)).fits ≡ true
literal_fits a function = ap (λ (c : SeenCallee). c.fits) (literal_is a function)

method_is : (a : Around) (receiver function : _) → seen_callee a (callees.Method receiver function) ≡ callee_layer_at a (layers.Callee-F.Method receiver function)
method_is a receiver function = ap (seen_callee a) (sym (callees.rolls-Method receiver function)) ∙ callee_is a (layers.Callee-F.Method receiver function)

pub method_signature : (a : Around) (receiver function : _) → (seen_callee a (callees.Method receiver function)).signature ≡ type_signature a (method_type_of a function receiver.value.of)
method_signature a receiver function = ap (λ (c : SeenCallee). c.signature) (method_is a receiver function) ∙ (λ i. type_signature a (method_type_of a function (of_is a receiver.value i)))

pub method_fits : (a : Around) (receiver function : _) → (seen_callee a (callees.Method receiver function)).fits ≡ (seen a receiver.value).fits
method_fits a receiver function = ap (λ (c : SeenCallee). c.fits) (method_is a receiver function)

interface_is : (a : Around) (receiver name owner : _) → seen_callee a (callees.Interface receiver name owner) ≡ callee_layer_at a (layers.Callee-F.Interface receiver name owner)
interface_is a receiver name owner = ap (seen_callee a) (sym (callees.rolls-Interface receiver name owner)) ∙ callee_is a (layers.Callee-F.Interface receiver name owner)

pub interface_signature : (a : Around) (receiver name owner : _) → (seen_callee a (callees.Interface receiver name owner)).signature ≡ type_signature a (interface_method a name owner (under a receiver.value.of))
interface_signature a receiver name owner = ap (λ (c : SeenCallee). c.signature) (interface_is a receiver name owner) ∙ (λ i. type_signature a (interface_method a name owner (under a (of_is a receiver.value i))))

pub interface_fits : (a : Around) (receiver name owner : _) → (seen_callee a (callees.Interface receiver name owner)).fits ≡ (seen a receiver.value).fits
interface_fits a receiver name owner = ap (λ (c : SeenCallee). c.fits) (interface_is a receiver name owner)

value_is : (a : Around) (value : _) → seen_callee a (callees.Value value) ≡ callee_layer_at a (layers.Callee-F.Value value)
value_is a value = ap (seen_callee a) (sym (callees.rolls-Value value)) ∙ callee_is a (layers.Callee-F.Value value)

pub value_signature : (a : Around) (value : _) → (seen_callee a (callees.Value value)).signature ≡ signature_in (under a value.value.of)
value_signature a value = ap (λ (c : SeenCallee). c.signature) (value_is a value) ∙ (λ i. signature_in (under a (of_is a value.value i)))

pub value_fits : (a : Around) (value : _) → (seen_callee a (callees.Value value)).fits ≡ (seen a value.value).fits
value_fits a value = ap (λ (c : SeenCallee). c.fits) (value_is a value)

pub ruleset callee_signatures = (function_signature, literal_signature, method_signature, interface_signature, value_signature)

pub ruleset callee_fits = (function_fits, literal_fits, method_fits, interface_fits, value_fits)

-- ---- the values of a list, by its form

each_is : (a : Around) (exprs : _) → seen_values a (values.Each exprs) ≡ values_layer_at a (layers.Values-F.Each exprs)
each_is a exprs = ap (seen_values a) (sym (values.rolls-Each exprs)) ∙ values_is a (layers.Values-F.Each exprs)

spread_is : (a : Around) (tuple parts : _) → seen_values a (values.Spread tuple parts) ≡ values_layer_at a (layers.Values-F.Spread tuple parts)
spread_is a tuple parts = ap (seen_values a) (sym (values.rolls-Spread tuple parts)) ∙ values_is a (layers.Values-F.Spread tuple parts)

pub each_fits : (a : Around) (exprs : _) → (seen_values a (values.Each exprs)).fits ≡ list_all (λ x. (seen a x).fits) exprs.items
each_fits a exprs = ap (λ (v : SeenValues). v.fits) (each_is a exprs) ∙ all_fit_map a exprs.items

parts_fit : (a : Around) (types : Option (List TypeId)) (xs : List TypedExpr)
    → option_map_or (λ types. nat_lt 1 (length types) && list_all (λ (x : Seen). x.fits_part types) (map (seen a) xs)) types false
    ≡ are_several types && list_all (λ x. (seen a x).fits_part (part_types types)) xs
parts_fit a None xs = refl
parts_fit a (Some types) xs = ap (λ (b : Bool). nat_lt 1 (length types) && b) (part_map a types xs)

pub spread_fits : (a : Around) (tuple parts : _) → (seen_values a (values.Spread tuple parts)).fits
    ≡ (seen a tuple.value).fits && (are_several (parts_of (term a tuple.value.of)) && list_all (λ x. (seen a x).fits_part (part_types (parts_of (term a tuple.value.of)))) parts.items)
spread_fits a tuple parts =
    ap (λ (v : SeenValues). v.fits) (spread_is a tuple parts)
    ∙ (ap (λ (b : Bool). (seen a tuple.value).fits && b) (parts_fit a (parts_of (term a (seen a tuple.value).of)) parts.items)
    ∙ ap (λ (of : TypeId). (seen a tuple.value).fits && (are_several (parts_of (term a of)) && list_all (λ x. (seen a x).fits_part (part_types (parts_of (term a of)))) parts.items)) (of_is a tuple.value))

pub ruleset values_fit = (each_fits, spread_fits)

pub each_exprs : (exprs : _) → value_exprs (values.Each exprs) ≡ exprs.items
unfolding value_exprs
each_exprs exprs = ap layer_exprs (values.outs-Each exprs)

pub spread_exprs : (tuple parts : _) → value_exprs (values.Spread tuple parts) ≡ parts.items
unfolding value_exprs
spread_exprs tuple parts = ap layer_exprs (values.outs-Spread tuple parts)

pub ruleset listed_values = (each_exprs, spread_exprs)

layer_types : (a : Around) (x : Values-F Callee Elements ExprKind Values EntryInit FieldInit ItemInit TypedExpr) → (values_layer_at a x).types ≡ types_of (map (seen a) (layer_exprs x))
layer_types a (layers.Values-F.Each exprs) = refl
layer_types a (layers.Values-F.Spread tuple parts) = refl

of_map : (a : Around) (xs : List TypedExpr) → types_of (map (seen a) xs) ≡ map (λ x. x.of) xs
of_map a [] = refl
of_map a (x ∷ xs) = λ i. of_is a x i ∷ of_map a xs i

pub values_types : (a : Around) (x : Values) → (seen_values a x).types ≡ map (λ y. y.of) (value_exprs x)
unfolding value_exprs
values_types a x = ap (λ (v : SeenValues). v.types) (values_out a x) ∙ (layer_types a (out-Values x) ∙ of_map a (layer_exprs (out-Values x)))

-- ---- fields, items and entries

field_is : (a : Around) (x : FieldInit) → seen_field a x ≡ record { field = x.field; value = seen a x.value }
unfolding seen_callee seen_elements seen_kind seen_values seen_entry seen_field seen_item seen
field_is a x = fold-roll-FieldInit SeenCallee SeenElements (TypeId → Seen) SeenValues SeenEntry SeenField SeenItem Seen (callee_layer a) (elements_layer a) (kind_layer a) (values_layer a) (entry_layer a) (field_layer a) (item_layer a) (expr_layer a) (record { field = x.field; value = x.value })

item_is : (a : Around) (x : ItemInit) → seen_item a x ≡ record { index = x.index; value = seen a x.value }
unfolding seen_callee seen_elements seen_kind seen_values seen_entry seen_field seen_item seen
item_is a x = fold-roll-ItemInit SeenCallee SeenElements (TypeId → Seen) SeenValues SeenEntry SeenField SeenItem Seen (callee_layer a) (elements_layer a) (kind_layer a) (values_layer a) (entry_layer a) (field_layer a) (item_layer a) (expr_layer a) (record { index = x.index; value = x.value })

entry_is : (a : Around) (x : EntryInit) → seen_entry a x ≡ record { key = seen a x.key; value = seen a x.value }
unfolding seen_callee seen_elements seen_kind seen_values seen_entry seen_field seen_item seen
entry_is a x = fold-roll-EntryInit SeenCallee SeenElements (TypeId → Seen) SeenValues SeenEntry SeenField SeenItem Seen (callee_layer a) (elements_layer a) (kind_layer a) (values_layer a) (entry_layer a) (field_layer a) (item_layer a) (expr_layer a) (record { key = x.key; value = x.value })

pub field_number : (a : Around) (x : FieldInit) → (seen_field a x).field ≡ x.field
field_number a x = ap (λ (s : SeenField). s.field) (field_is a x)

pub field_value : (a : Around) (x : FieldInit) → (seen_field a x).value ≡ seen a x.value
field_value a x = ap (λ (s : SeenField). s.value) (field_is a x)

pub item_number : (a : Around) (x : ItemInit) → (seen_item a x).index ≡ x.index
item_number a x = ap (λ (s : SeenItem). s.index) (item_is a x)

pub item_value : (a : Around) (x : ItemInit) → (seen_item a x).value ≡ seen a x.value
item_value a x = ap (λ (s : SeenItem). s.value) (item_is a x)

pub entry_key : (a : Around) (x : EntryInit) → (seen_entry a x).key ≡ seen a x.key
entry_key a x = ap (λ (s : SeenEntry). s.key) (entry_is a x)

pub entry_value : (a : Around) (x : EntryInit) → (seen_entry a x).value ≡ seen a x.value
entry_value a x = ap (λ (s : SeenEntry). s.value) (entry_is a x)

pub ruleset field_rules = (of_is, field_number, field_value, item_number, item_value, entry_key, entry_value)

-- ---- composite literals, by their form

and_false : (b : Bool) → false ≡ b && false
and_false true = refl
and_false false = refl

and_true : (b : Bool) → b ≡ b && true
and_true true = refl
and_true false = refl

swap : (b c d : Bool) → b && (c && d) ≡ c && (b && d)
swap true c d = refl
swap false true d = refl
swap false false d = refl

fields_split : (test : Seen → Bool) (t : Option TypeTerm) (given : List SeenField) → fits_fields test t given ≡ list_all (fits_set_field test t) given && (is_struct t && are_distinct (map (λ (x : SeenField). x.field) given))
fields_split test (Some (terms.Struct fields)) given = refl
fields_split test _ given = and_false _

items_split : (test : Seen → Bool) (t : Option TypeTerm) (items : List SeenItem) (len : ℕ) → fits_items test t items len ≡ list_all (item_fits test len (item_type t)) items && (has_items t len && are_distinct (map (λ (x : SeenItem). x.index) items))
items_split test (Some (terms.Array size elem)) items len = swap (len == size) (list_all (item_fits test len (Some elem)) items) (are_distinct (map (λ (x : SeenItem). x.index) items))
items_split test (Some (terms.Slice elem)) items len = refl
items_split test _ items len = and_false _

entries_split : (test : Seen → Bool) (t : Option TypeTerm) (entries : List SeenEntry) → fits_entries test t entries ≡ list_all (entry_fits test (key_type t) (value_type t)) entries && is_map t
entries_split test (Some (terms.Map key elem)) entries = and_true _
entries_split test _ entries = and_false _

all_map : {A B : Type 0} (p : B → Bool) (f : A → B) (xs : List A) → list_all p (map f xs) ≡ list_all (λ x. p (f x)) xs
all_map p f [] = refl
all_map p f (x ∷ xs) = ap (λ (b : Bool). p (f x) && b) (all_map p f xs)

field_numbers : (a : Around) (xs : List FieldInit) → map (λ (x : SeenField). x.field) (map (seen_field a) xs) ≡ map (λ x. x.field) xs
field_numbers a [] = refl
field_numbers a (x ∷ xs) = λ i. field_number a x i ∷ field_numbers a xs i

item_numbers : (a : Around) (xs : List ItemInit) → map (λ (x : SeenItem). x.index) (map (seen_item a) xs) ≡ map (λ x. x.index) xs
item_numbers a [] = refl
item_numbers a (x ∷ xs) = λ i. item_number a x i ∷ item_numbers a xs i

pub fields_fit : (a : Around) (fields : _) (test : Seen → Bool) (of : TypeId) → (seen_elements a (elements_of.Fields fields)).fit test of
    ≡ list_all (λ x. fits_set_field test (under a of) (seen_field a x)) fields.items && (is_struct (under a of) && are_distinct (map (λ x. x.field) fields.items))
fields_fit a fields test of =
    ap (λ (e : SeenElements). e.fit test of) (ap (seen_elements a) (sym (elements_of.rolls-Fields fields)) ∙ elements_is a (layers.Elements-F.Fields fields))
    ∙ (fields_split test (under a of) (map (seen_field a) fields.items)
    ∙ (λ i. all_map (fits_set_field test (under a of)) (seen_field a) fields.items i && (is_struct (under a of) && are_distinct (field_numbers a fields.items i))))

pub items_fit : (a : Around) (items len : _) (test : Seen → Bool) (of : TypeId) → (seen_elements a (elements_of.Items items len)).fit test of
    ≡ list_all (λ x. item_fits test len (item_type (under a of)) (seen_item a x)) items.items && (has_items (under a of) len && are_distinct (map (λ x. x.index) items.items))
items_fit a items len test of =
    ap (λ (e : SeenElements). e.fit test of) (ap (seen_elements a) (sym (elements_of.rolls-Items items len)) ∙ elements_is a (layers.Elements-F.Items items len))
    ∙ (items_split test (under a of) (map (seen_item a) items.items) len
    ∙ (λ i. all_map (item_fits test len (item_type (under a of))) (seen_item a) items.items i && (has_items (under a of) len && are_distinct (item_numbers a items.items i))))

pub entries_fit : (a : Around) (entries : _) (test : Seen → Bool) (of : TypeId) → (seen_elements a (elements_of.Entries entries)).fit test of
    ≡ list_all (λ x. entry_fits test (key_type (under a of)) (value_type (under a of)) (seen_entry a x)) entries.items && is_map (under a of)
entries_fit a entries test of =
    ap (λ (e : SeenElements). e.fit test of) (ap (seen_elements a) (sym (elements_of.rolls-Entries entries)) ∙ elements_is a (layers.Elements-F.Entries entries))
    ∙ (entries_split test (under a of) (map (seen_entry a) entries.items)
    ∙ (λ i. all_map (entry_fits test (key_type (under a of)) (value_type (under a of))) (seen_entry a) entries.items i && is_map (under a of)))

pub ruleset element_rules = (fields_fit, items_fit, entries_fit)
