-- What the forms of expressions are seen as.
use Rattle.std.proofs.Common.{◌≡◌, refl, sym, ap, ◌∙◌, List, [], ◌∷◌, ◌++◌, map, Option, Some, None, ℕ, suc, Bool, append_assoc, append-nil}
use Rattle.std.specs.Prelude.{flat_map}
use Rattle.go_base.specs.declared.ids.TypeId.{TypeId}
use Rattle.go_base.specs.declared.place.Pos.{Pos}
use Rattle.go_tree.specs.declared.exprs.Callee.{Callee}
use Rattle.go_tree.specs.declared.exprs.Elements.{Elements}
use Rattle.go_tree.specs.declared.exprs.EntryInit.{EntryInit}
use Rattle.go_tree.specs.declared.exprs.ExprKind.{ExprKind}
use Rattle.go_tree.specs.declared.exprs.FieldInit.{FieldInit}
use Rattle.go_tree.specs.declared.exprs.ItemInit.{ItemInit}
use Rattle.go_tree.specs.declared.exprs.TypedExpr.{TypedExpr}
use Rattle.go_tree.specs.declared.exprs.Values.{Values}
use Rattle.go_tree.specs.declared.exprs.Callee.TheOpen as layers
use Rattle.go_tree.specs.declared.exprs.Callee.TheOpen.{Callee-F, Elements-F, ExprKind-F, Values-F}
use Rattle.go_tree.specs.declared.exprs.Callee.TheVariants as callees
use Rattle.go_tree.specs.declared.exprs.Elements.TheVariants as elements_of
use Rattle.go_tree.specs.declared.exprs.ExprKind.TheVariants as kinds
use Rattle.go_tree.specs.declared.exprs.Values.TheVariants as values
use Rattle.go_tree.specs.declared.exprs.Callee.TheViews.{roll-Callee, roll-Elements, roll-ExprKind, roll-Values, out-Values, out-ExprKind, roll-out-ExprKind}
use Rattle.go_tree.specs.declared.exprs.Callee.TheFolds.{fold-roll-Callee, fold-roll-Elements, fold-roll-ExprKind, fold-roll-Values, fold-roll-EntryInit, fold-roll-FieldInit, fold-roll-ItemInit, fold-roll-TypedExpr, map-Callee, map-Elements, map-ExprKind, map-Values, fold_out-ExprKind, fold_out-Values}
use Rattle.go_type.specs.Table.{Table}
use Rattle.cg_nodes.specs.declared.nodes.Group.TheVariants as group_of
use Rattle.cg_nodes.specs.declared.nodes.Mention.{Mention}
use Rattle.cg_nodes.specs.declared.nodes.Mention.TheVariants as mention
use Rattle.cg_nodes.specs.declared.nodes.Node.{Node}
use Rattle.cg_nodes.specs.declared.nodes.Node.TheVariants as node_of
use Rattle.cg_nodes.specs.declared.nodes.Parts.{Parts}
use Rattle.cg_nodes.specs.declared.nodes.Parts.TheVariants as parts_of
use Rattle.cg_nodes.specs.declared.nodes.Value.TheVariants as value_of
use Rattle.cg_nodes.specs.Places.{flow, carrying, part_node}
use Rattle.cg_nodes.specs.Uses.{Seen, SeenCallee, SeenValues, SeenField, SeenEntry, selected, method_value, method_expression, uses_of, bound, built_in_node, built_in_uses, addressed, set_field, set_item, set_entry, calls_fixed, calls_chosen, called_with, layer_exprs, value_exprs, callee_layer, values_layer, elements_layer, boxed_node, boxed_uses, asserted, kind_layer, entry_layer, field_layer, item_layer, expr_layer, kept, seen_callee, seen_elements, seen_kind, seen_values, seen_entry, seen_field, seen_item, seen_expr, seen_all, seen_if}

abbrev kind_layer_at : (types : Table) → ExprKind-F Callee Elements ExprKind Values EntryInit FieldInit ItemInit TypedExpr → Pos → TypeId → Seen
kind_layer_at types x = kind_layer types (map-ExprKind Callee Elements ExprKind Values EntryInit FieldInit ItemInit TypedExpr SeenCallee (TypeId → Parts → List Mention) (Pos → TypeId → Seen) SeenValues SeenEntry SeenField Seen Seen (seen_callee types) (seen_elements types) (seen_kind types) (seen_values types) (seen_entry types) (seen_field types) (seen_item types) (seen_expr types) x)

kind_is : (types : Table) (x : ExprKind-F Callee Elements ExprKind Values EntryInit FieldInit ItemInit TypedExpr) → seen_kind types (roll-ExprKind x) ≡ kind_layer_at types x
unfolding seen_callee seen_elements seen_kind seen_values seen_entry seen_field seen_item seen_expr
kind_is types x = fold-roll-ExprKind SeenCallee (TypeId → Parts → List Mention) (Pos → TypeId → Seen) SeenValues SeenEntry SeenField Seen Seen (callee_layer types) (elements_layer types) (kind_layer types) (values_layer types) (entry_layer types) (field_layer types) (item_layer types) (expr_layer types) x

abbrev callee_layer_at : (types : Table) → Callee-F Callee Elements ExprKind Values EntryInit FieldInit ItemInit TypedExpr → SeenCallee
callee_layer_at types x = callee_layer types (map-Callee Callee Elements ExprKind Values EntryInit FieldInit ItemInit TypedExpr SeenCallee (TypeId → Parts → List Mention) (Pos → TypeId → Seen) SeenValues SeenEntry SeenField Seen Seen (seen_callee types) (seen_elements types) (seen_kind types) (seen_values types) (seen_entry types) (seen_field types) (seen_item types) (seen_expr types) x)

callee_is : (types : Table) (x : Callee-F Callee Elements ExprKind Values EntryInit FieldInit ItemInit TypedExpr) → seen_callee types (roll-Callee x) ≡ callee_layer_at types x
unfolding seen_callee seen_elements seen_kind seen_values seen_entry seen_field seen_item seen_expr
callee_is types x = fold-roll-Callee SeenCallee (TypeId → Parts → List Mention) (Pos → TypeId → Seen) SeenValues SeenEntry SeenField Seen Seen (callee_layer types) (elements_layer types) (kind_layer types) (values_layer types) (entry_layer types) (field_layer types) (item_layer types) (expr_layer types) x

abbrev values_layer_at : (types : Table) → Values-F Callee Elements ExprKind Values EntryInit FieldInit ItemInit TypedExpr → SeenValues
values_layer_at types x = values_layer types (map-Values Callee Elements ExprKind Values EntryInit FieldInit ItemInit TypedExpr SeenCallee (TypeId → Parts → List Mention) (Pos → TypeId → Seen) SeenValues SeenEntry SeenField Seen Seen (seen_callee types) (seen_elements types) (seen_kind types) (seen_values types) (seen_entry types) (seen_field types) (seen_item types) (seen_expr types) x)

values_is : (types : Table) (x : Values-F Callee Elements ExprKind Values EntryInit FieldInit ItemInit TypedExpr) → seen_values types (roll-Values x) ≡ values_layer_at types x
unfolding seen_callee seen_elements seen_kind seen_values seen_entry seen_field seen_item seen_expr
values_is types x = fold-roll-Values SeenCallee (TypeId → Parts → List Mention) (Pos → TypeId → Seen) SeenValues SeenEntry SeenField Seen Seen (callee_layer types) (elements_layer types) (kind_layer types) (values_layer types) (entry_layer types) (field_layer types) (item_layer types) (expr_layer types) x

abbrev elements_layer_at : (types : Table) → Elements-F Callee Elements ExprKind Values EntryInit FieldInit ItemInit TypedExpr → TypeId → Parts → List Mention
elements_layer_at types x = elements_layer types (map-Elements Callee Elements ExprKind Values EntryInit FieldInit ItemInit TypedExpr SeenCallee (TypeId → Parts → List Mention) (Pos → TypeId → Seen) SeenValues SeenEntry SeenField Seen Seen (seen_callee types) (seen_elements types) (seen_kind types) (seen_values types) (seen_entry types) (seen_field types) (seen_item types) (seen_expr types) x)

elements_is : (types : Table) (x : Elements-F Callee Elements ExprKind Values EntryInit FieldInit ItemInit TypedExpr) → seen_elements types (roll-Elements x) ≡ elements_layer_at types x
unfolding seen_callee seen_elements seen_kind seen_values seen_entry seen_field seen_item seen_expr
elements_is types x = fold-roll-Elements SeenCallee (TypeId → Parts → List Mention) (Pos → TypeId → Seen) SeenValues SeenEntry SeenField Seen Seen (callee_layer types) (elements_layer types) (kind_layer types) (values_layer types) (entry_layer types) (field_layer types) (item_layer types) (expr_layer types) x

kind_out : (types : Table) (x : ExprKind) → seen_kind types x ≡ kind_layer_at types (out-ExprKind x)
unfolding seen_callee seen_elements seen_kind seen_values seen_entry seen_field seen_item seen_expr
kind_out types x = fold_out-ExprKind SeenCallee (TypeId → Parts → List Mention) (Pos → TypeId → Seen) SeenValues SeenEntry SeenField Seen Seen (callee_layer types) (elements_layer types) (kind_layer types) (values_layer types) (entry_layer types) (field_layer types) (item_layer types) (expr_layer types) x

values_out : (types : Table) (x : Values) → seen_values types x ≡ values_layer_at types (out-Values x)
unfolding seen_callee seen_elements seen_kind seen_values seen_entry seen_field seen_item seen_expr
values_out types x = fold_out-Values SeenCallee (TypeId → Parts → List Mention) (Pos → TypeId → Seen) SeenValues SeenEntry SeenField Seen Seen (callee_layer types) (elements_layer types) (kind_layer types) (values_layer types) (entry_layer types) (field_layer types) (item_layer types) (expr_layer types) x

-- ---- whole expressions

expr_is : (types : Table) (x : TypedExpr) → seen_expr types x ≡ kept types (seen_kind types x.kind x.at x.of)
unfolding seen_callee seen_elements seen_kind seen_values seen_entry seen_field seen_item seen_expr
expr_is types x = fold-roll-TypedExpr SeenCallee (TypeId → Parts → List Mention) (Pos → TypeId → Seen) SeenValues SeenEntry SeenField Seen Seen (callee_layer types) (elements_layer types) (kind_layer types) (values_layer types) (entry_layer types) (field_layer types) (item_layer types) (expr_layer types) (record { at = x.at; of = x.of; kind = x.kind })

layer_type : (types : Table) (x : ExprKind-F SeenCallee (TypeId → Parts → List Mention) (Pos → TypeId → Seen) SeenValues SeenEntry SeenField Seen Seen) (at : Pos) (id : TypeId) → (kind_layer types x at id).of ≡ id
layer_type types (layers.ExprKind-F.ConstOf value) at id = refl
layer_type types layers.ExprKind-F.NilOf at id = refl
layer_type types (layers.ExprKind-F.VarOf variable) at id = refl
layer_type types (layers.ExprKind-F.FunctionOf function) at id = refl
layer_type types (layers.ExprKind-F.LiteralOf function) at id = refl
layer_type types (layers.ExprKind-F.MethodValue receiver method) at id = refl
layer_type types (layers.ExprKind-F.MethodExpr receiver name package_number) at id = refl
layer_type types (layers.ExprKind-F.FieldOf operand field) at id = refl
layer_type types (layers.ExprKind-F.IndexOf base operand index) at id = refl
layer_type types (layers.ExprKind-F.MapIndex table key comma_ok) at id = refl
layer_type types (layers.ExprKind-F.SliceOf base operand low high max) at id = refl
layer_type types (layers.ExprKind-F.Deref operand) at id = refl
layer_type types (layers.ExprKind-F.AddressOf operand) at id = refl
layer_type types (layers.ExprKind-F.UnaryOf op operand) at id = refl
layer_type types (layers.ExprKind-F.BinaryOf op left right) at id = refl
layer_type types (layers.ExprKind-F.CompareOf op left right) at id = refl
layer_type types (layers.ExprKind-F.AndAlso left right) at id = refl
layer_type types (layers.ExprKind-F.OrElse left right) at id = refl
layer_type types (layers.ExprKind-F.Receive channel comma_ok) at id = refl
layer_type types (layers.ExprKind-F.CallOf callee arguments) at id = refl
layer_type types (layers.ExprKind-F.BuiltinOf builtin form arguments spread) at id = refl
layer_type types (layers.ExprKind-F.ConvertTo operand) at id = refl
layer_type types (layers.ExprKind-F.ToInterface operand) at id = refl
layer_type types (layers.ExprKind-F.AssertTo operand to comma_ok) at id = refl
layer_type types (layers.ExprKind-F.CompositeOf elements) at id = refl
layer_type types (layers.ExprKind-F.PartOf part) at id = refl

kind_type : (types : Table) (x : ExprKind) (at : Pos) (id : TypeId) → (seen_kind types x at id).of ≡ id
kind_type types x at id = ap (λ (k : Pos → TypeId → Seen). (k at id).of) (kind_out types x) ∙ layer_type types (map-ExprKind Callee Elements ExprKind Values EntryInit FieldInit ItemInit TypedExpr SeenCallee (TypeId → Parts → List Mention) (Pos → TypeId → Seen) SeenValues SeenEntry SeenField Seen Seen (seen_callee types) (seen_elements types) (seen_kind types) (seen_values types) (seen_entry types) (seen_field types) (seen_item types) (seen_expr types) (out-ExprKind x)) at id

pub of_is : (types : Table) (x : TypedExpr) → (seen_expr types x).of ≡ x.of
of_is types x = ap (λ (y : Seen). y.of) (expr_is types x) ∙ kind_type types x.kind x.at x.of

pub uses_is : (types : Table) (x : TypedExpr) (p : Parts) → (seen_expr types x).uses p ≡ (seen_kind types x.kind x.at x.of).uses p
uses_is types x p = ap (λ (y : Seen). y.uses p) (expr_is types x)

pub parts_is : (types : Table) (x : TypedExpr) (p : Parts) → (seen_expr types x).parts p ≡ (seen_kind types x.kind x.at x.of).parts p
parts_is types x p = ap (λ (y : Seen). y.parts p) (expr_is types x)

pub node_is : (types : Table) (x : TypedExpr) (p : Parts) → (seen_expr types x).node p ≡ carrying types x.of ((seen_kind types x.kind x.at x.of).node p)
node_is types x p = ap (λ (y : Seen). y.node p) (expr_is types x) ∙ ap (λ (id : TypeId). carrying types id ((seen_kind types x.kind x.at x.of).node p)) (kind_type types x.kind x.at x.of)

-- ---- an expression by its form: its node, what stands in it, and what its parts are

const_of_is : (types : Table) (value : _) → seen_kind types (kinds.ConstOf value) ≡ kind_layer_at types (layers.ExprKind-F.ConstOf value)
const_of_is types value = ap (seen_kind types) (sym (kinds.rolls-ConstOf value)) ∙ kind_is types (layers.ExprKind-F.ConstOf value)

pub const_of_node : (types : Table) (value : _) (at : Pos) (id : TypeId) (p : Parts) → (seen_kind types (kinds.ConstOf value) at id).node p ≡ node_of.Nothing
const_of_node types value at id p = ap (λ (k : Pos → TypeId → Seen). (k at id).node p) (const_of_is types value)

pub const_of_uses : (types : Table) (value : _) (at : Pos) (id : TypeId) (p : Parts) → (seen_kind types (kinds.ConstOf value) at id).uses p ≡ []
const_of_uses types value at id p = ap (λ (k : Pos → TypeId → Seen). (k at id).uses p) (const_of_is types value)

nil_of_is : (types : Table) → seen_kind types ExprKind.NilOf ≡ kind_layer_at types layers.ExprKind-F.NilOf
nil_of_is types = ap (seen_kind types) (sym kinds.rolls-NilOf) ∙ kind_is types layers.ExprKind-F.NilOf

pub nil_of_node : (types : Table) (at : Pos) (id : TypeId) (p : Parts) → (seen_kind types ExprKind.NilOf at id).node p ≡ node_of.Nothing
nil_of_node types at id p = ap (λ (k : Pos → TypeId → Seen). (k at id).node p) (nil_of_is types)

pub nil_of_uses : (types : Table) (at : Pos) (id : TypeId) (p : Parts) → (seen_kind types ExprKind.NilOf at id).uses p ≡ []
nil_of_uses types at id p = ap (λ (k : Pos → TypeId → Seen). (k at id).uses p) (nil_of_is types)

var_of_is : (types : Table) (variable : _) → seen_kind types (kinds.VarOf variable) ≡ kind_layer_at types (layers.ExprKind-F.VarOf variable)
var_of_is types variable = ap (seen_kind types) (sym (kinds.rolls-VarOf variable)) ∙ kind_is types (layers.ExprKind-F.VarOf variable)

pub var_of_node : (types : Table) (variable : _) (at : Pos) (id : TypeId) (p : Parts) → (seen_kind types (kinds.VarOf variable) at id).node p ≡ node_of.Variable variable
var_of_node types variable at id p = ap (λ (k : Pos → TypeId → Seen). (k at id).node p) (var_of_is types variable)

pub var_of_uses : (types : Table) (variable : _) (at : Pos) (id : TypeId) (p : Parts) → (seen_kind types (kinds.VarOf variable) at id).uses p ≡ []
var_of_uses types variable at id p = ap (λ (k : Pos → TypeId → Seen). (k at id).uses p) (var_of_is types variable)

function_of_is : (types : Table) (function : _) → seen_kind types (kinds.FunctionOf function) ≡ kind_layer_at types (layers.ExprKind-F.FunctionOf function)
function_of_is types function = ap (seen_kind types) (sym (kinds.rolls-FunctionOf function)) ∙ kind_is types (layers.ExprKind-F.FunctionOf function)

pub function_of_node : (types : Table) (function : _) (at : Pos) (id : TypeId) (p : Parts) → (seen_kind types (kinds.FunctionOf function) at id).node p ≡ node_of.Made (value_of.Function function)
function_of_node types function at id p = ap (λ (k : Pos → TypeId → Seen). (k at id).node p) (function_of_is types function)

pub function_of_uses : (types : Table) (function : _) (at : Pos) (id : TypeId) (p : Parts) → (seen_kind types (kinds.FunctionOf function) at id).uses p ≡ mention.Seed (value_of.Function function) ∷ []
function_of_uses types function at id p = ap (λ (k : Pos → TypeId → Seen). (k at id).uses p) (function_of_is types function)

literal_of_is : (types : Table) (function : _) → seen_kind types (kinds.LiteralOf function) ≡ kind_layer_at types (layers.ExprKind-F.LiteralOf function)
literal_of_is types function = ap (seen_kind types) (sym (kinds.rolls-LiteralOf function)) ∙ kind_is types (layers.ExprKind-F.LiteralOf function)

pub literal_of_node : (types : Table) (function : _) (at : Pos) (id : TypeId) (p : Parts) → (seen_kind types (kinds.LiteralOf function) at id).node p ≡ node_of.Made (value_of.Function function)
literal_of_node types function at id p = ap (λ (k : Pos → TypeId → Seen). (k at id).node p) (literal_of_is types function)

pub literal_of_uses : (types : Table) (function : _) (at : Pos) (id : TypeId) (p : Parts) → (seen_kind types (kinds.LiteralOf function) at id).uses p ≡ mention.Seed (value_of.Function function) ∷ []
literal_of_uses types function at id p = ap (λ (k : Pos → TypeId → Seen). (k at id).uses p) (literal_of_is types function)

method_value_is : (types : Table) (receiver method : _) → seen_kind types (kinds.MethodValue receiver method) ≡ kind_layer_at types (layers.ExprKind-F.MethodValue receiver method)
method_value_is types receiver method = ap (seen_kind types) (sym (kinds.rolls-MethodValue receiver method)) ∙ kind_is types (layers.ExprKind-F.MethodValue receiver method)

pub method_value_node : (types : Table) (receiver method : _) (at : Pos) (id : TypeId) (p : Parts) → (seen_kind types (kinds.MethodValue receiver method) at id).node p ≡ node_of.Made (method_value at id receiver.value.of method)
method_value_node types receiver method at id p = ap (λ (k : Pos → TypeId → Seen). (k at id).node p) (method_value_is types receiver method) ∙ ap (λ (of : TypeId). node_of.Made (method_value at id of method)) (of_is types receiver.value)

pub method_value_uses : (types : Table) (receiver method : _) (at : Pos) (id : TypeId) (p : Parts) → (seen_kind types (kinds.MethodValue receiver method) at id).uses p ≡ (seen_expr types receiver.value).uses p ++ (mention.Seed (method_value at id receiver.value.of method) ∷ bound p at (seen_expr types receiver.value) method)
method_value_uses types receiver method at id p = ap (λ (k : Pos → TypeId → Seen). (k at id).uses p) (method_value_is types receiver method) ∙ ap (λ (of : TypeId). (seen_expr types receiver.value).uses p ++ (mention.Seed (method_value at id of method) ∷ bound p at (seen_expr types receiver.value) method)) (of_is types receiver.value)

method_expr_is : (types : Table) (receiver name package_number : _) → seen_kind types (kinds.MethodExpr receiver name package_number) ≡ kind_layer_at types (layers.ExprKind-F.MethodExpr receiver name package_number)
method_expr_is types receiver name package_number = ap (seen_kind types) (sym (kinds.rolls-MethodExpr receiver name package_number)) ∙ kind_is types (layers.ExprKind-F.MethodExpr receiver name package_number)

pub method_expr_node : (types : Table) (receiver name package_number : _) (at : Pos) (id : TypeId) (p : Parts) → (seen_kind types (kinds.MethodExpr receiver name package_number) at id).node p ≡ node_of.Made (method_expression id receiver name package_number)
method_expr_node types receiver name package_number at id p = ap (λ (k : Pos → TypeId → Seen). (k at id).node p) (method_expr_is types receiver name package_number)

pub method_expr_uses : (types : Table) (receiver name package_number : _) (at : Pos) (id : TypeId) (p : Parts) → (seen_kind types (kinds.MethodExpr receiver name package_number) at id).uses p ≡ mention.Seed (method_expression id receiver name package_number) ∷ []
method_expr_uses types receiver name package_number at id p = ap (λ (k : Pos → TypeId → Seen). (k at id).uses p) (method_expr_is types receiver name package_number)

field_of_is : (types : Table) (operand field : _) → seen_kind types (kinds.FieldOf operand field) ≡ kind_layer_at types (layers.ExprKind-F.FieldOf operand field)
field_of_is types operand field = ap (seen_kind types) (sym (kinds.rolls-FieldOf operand field)) ∙ kind_is types (layers.ExprKind-F.FieldOf operand field)

pub field_of_node : (types : Table) (operand field : _) (at : Pos) (id : TypeId) (p : Parts) → (seen_kind types (kinds.FieldOf operand field) at id).node p ≡ node_of.Field operand.value.of field
field_of_node types operand field at id p = ap (λ (k : Pos → TypeId → Seen). (k at id).node p) (field_of_is types operand field) ∙ ap (λ (of : TypeId). node_of.Field of field) (of_is types operand.value)

pub field_of_uses : (types : Table) (operand field : _) (at : Pos) (id : TypeId) (p : Parts) → (seen_kind types (kinds.FieldOf operand field) at id).uses p ≡ (seen_expr types operand.value).uses p
field_of_uses types operand field at id p = ap (λ (k : Pos → TypeId → Seen). (k at id).uses p) (field_of_is types operand field)

index_of_is : (types : Table) (base operand index : _) → seen_kind types (kinds.IndexOf base operand index) ≡ kind_layer_at types (layers.ExprKind-F.IndexOf base operand index)
index_of_is types base operand index = ap (seen_kind types) (sym (kinds.rolls-IndexOf base operand index)) ∙ kind_is types (layers.ExprKind-F.IndexOf base operand index)

pub index_of_node : (types : Table) (base operand index : _) (at : Pos) (id : TypeId) (p : Parts) → (seen_kind types (kinds.IndexOf base operand index) at id).node p ≡ node_of.Elem id
index_of_node types base operand index at id p = ap (λ (k : Pos → TypeId → Seen). (k at id).node p) (index_of_is types base operand index)

pub index_of_uses : (types : Table) (base operand index : _) (at : Pos) (id : TypeId) (p : Parts) → (seen_kind types (kinds.IndexOf base operand index) at id).uses p ≡ (seen_expr types operand.value).uses p ++ (seen_expr types index.value).uses p
index_of_uses types base operand index at id p = ap (λ (k : Pos → TypeId → Seen). (k at id).uses p) (index_of_is types base operand index)

map_index_is : (types : Table) (table key comma_ok : _) → seen_kind types (kinds.MapIndex table key comma_ok) ≡ kind_layer_at types (layers.ExprKind-F.MapIndex table key comma_ok)
map_index_is types table key comma_ok = ap (seen_kind types) (sym (kinds.rolls-MapIndex table key comma_ok)) ∙ kind_is types (layers.ExprKind-F.MapIndex table key comma_ok)

pub map_index_node : (types : Table) (table key comma_ok : _) (at : Pos) (id : TypeId) (p : Parts) → (seen_kind types (kinds.MapIndex table key comma_ok) at id).node p ≡ node_of.Val id
map_index_node types table key comma_ok at id p = ap (λ (k : Pos → TypeId → Seen). (k at id).node p) (map_index_is types table key comma_ok)

pub map_index_uses : (types : Table) (table key comma_ok : _) (at : Pos) (id : TypeId) (p : Parts) → (seen_kind types (kinds.MapIndex table key comma_ok) at id).uses p ≡ (seen_expr types table.value).uses p ++ (seen_expr types key.value).uses p
map_index_uses types table key comma_ok at id p = ap (λ (k : Pos → TypeId → Seen). (k at id).uses p) (map_index_is types table key comma_ok)

pub map_index_parts : (types : Table) (table key comma_ok : _) (at : Pos) (id : TypeId) (p : Parts) → (seen_kind types (kinds.MapIndex table key comma_ok) at id).parts p ≡ parts_of.Lookup
map_index_parts types table key comma_ok at id p = ap (λ (k : Pos → TypeId → Seen). (k at id).parts p) (map_index_is types table key comma_ok)

pub slice_of_node : (types : Table) (base operand low high max : _) (at : Pos) (id : TypeId) (p : Parts) → (seen_kind types (kinds.SliceOf base operand low high max) at id).node p ≡ node_of.Nothing
slice_of_node types base operand low high max at id p = ap (λ (k : Pos → TypeId → Seen). (k at id).node p) (ap (seen_kind types) (sym (kinds.rolls-SliceOf base operand low high max)) ∙ kind_is types (layers.ExprKind-F.SliceOf base operand low high max))

pub slice_of_uses : (types : Table) (base operand low high max : _) (at : Pos) (id : TypeId) (p : Parts) → (seen_kind types (kinds.SliceOf base operand low high max) at id).uses p ≡ (seen_expr types operand.value).uses p ++ (seen_if types low p ++ (seen_if types high p ++ seen_if types max p))
slice_of_uses types base operand None None None at id p = ap (λ (k : Pos → TypeId → Seen). (k at id).uses p) (ap (seen_kind types) (sym (kinds.rolls-SliceOf base operand None None None)) ∙ kind_is types (layers.ExprKind-F.SliceOf base operand None None None))
slice_of_uses types base operand None None (Some m) at id p = ap (λ (k : Pos → TypeId → Seen). (k at id).uses p) (ap (seen_kind types) (sym (kinds.rolls-SliceOf base operand None None (Some m))) ∙ kind_is types (layers.ExprKind-F.SliceOf base operand None None (Some m)))
slice_of_uses types base operand None (Some h) None at id p = ap (λ (k : Pos → TypeId → Seen). (k at id).uses p) (ap (seen_kind types) (sym (kinds.rolls-SliceOf base operand None (Some h) None)) ∙ kind_is types (layers.ExprKind-F.SliceOf base operand None (Some h) None))
slice_of_uses types base operand None (Some h) (Some m) at id p = ap (λ (k : Pos → TypeId → Seen). (k at id).uses p) (ap (seen_kind types) (sym (kinds.rolls-SliceOf base operand None (Some h) (Some m))) ∙ kind_is types (layers.ExprKind-F.SliceOf base operand None (Some h) (Some m)))
slice_of_uses types base operand (Some l) None None at id p = ap (λ (k : Pos → TypeId → Seen). (k at id).uses p) (ap (seen_kind types) (sym (kinds.rolls-SliceOf base operand (Some l) None None)) ∙ kind_is types (layers.ExprKind-F.SliceOf base operand (Some l) None None))
slice_of_uses types base operand (Some l) None (Some m) at id p = ap (λ (k : Pos → TypeId → Seen). (k at id).uses p) (ap (seen_kind types) (sym (kinds.rolls-SliceOf base operand (Some l) None (Some m))) ∙ kind_is types (layers.ExprKind-F.SliceOf base operand (Some l) None (Some m)))
slice_of_uses types base operand (Some l) (Some h) None at id p = ap (λ (k : Pos → TypeId → Seen). (k at id).uses p) (ap (seen_kind types) (sym (kinds.rolls-SliceOf base operand (Some l) (Some h) None)) ∙ kind_is types (layers.ExprKind-F.SliceOf base operand (Some l) (Some h) None))
slice_of_uses types base operand (Some l) (Some h) (Some m) at id p = ap (λ (k : Pos → TypeId → Seen). (k at id).uses p) (ap (seen_kind types) (sym (kinds.rolls-SliceOf base operand (Some l) (Some h) (Some m))) ∙ kind_is types (layers.ExprKind-F.SliceOf base operand (Some l) (Some h) (Some m)))

deref_is : (types : Table) (operand : _) → seen_kind types (kinds.Deref operand) ≡ kind_layer_at types (layers.ExprKind-F.Deref operand)
deref_is types operand = ap (seen_kind types) (sym (kinds.rolls-Deref operand)) ∙ kind_is types (layers.ExprKind-F.Deref operand)

pub deref_node : (types : Table) (operand : _) (at : Pos) (id : TypeId) (p : Parts) → (seen_kind types (kinds.Deref operand) at id).node p ≡ node_of.Ptr id
deref_node types operand at id p = ap (λ (k : Pos → TypeId → Seen). (k at id).node p) (deref_is types operand)

pub deref_uses : (types : Table) (operand : _) (at : Pos) (id : TypeId) (p : Parts) → (seen_kind types (kinds.Deref operand) at id).uses p ≡ (seen_expr types operand.value).uses p
deref_uses types operand at id p = ap (λ (k : Pos → TypeId → Seen). (k at id).uses p) (deref_is types operand)

address_of_is : (types : Table) (operand : _) → seen_kind types (kinds.AddressOf operand) ≡ kind_layer_at types (layers.ExprKind-F.AddressOf operand)
address_of_is types operand = ap (seen_kind types) (sym (kinds.rolls-AddressOf operand)) ∙ kind_is types (layers.ExprKind-F.AddressOf operand)

pub address_of_node : (types : Table) (operand : _) (at : Pos) (id : TypeId) (p : Parts) → (seen_kind types (kinds.AddressOf operand) at id).node p ≡ node_of.Nothing
address_of_node types operand at id p = ap (λ (k : Pos → TypeId → Seen). (k at id).node p) (address_of_is types operand)

pub address_of_uses : (types : Table) (operand : _) (at : Pos) (id : TypeId) (p : Parts) → (seen_kind types (kinds.AddressOf operand) at id).uses p ≡ (seen_expr types operand.value).uses p ++ addressed operand.value.of ((seen_expr types operand.value).node p)
address_of_uses types operand at id p = ap (λ (k : Pos → TypeId → Seen). (k at id).uses p) (address_of_is types operand) ∙ ap (λ (of : TypeId). (seen_expr types operand.value).uses p ++ addressed of ((seen_expr types operand.value).node p)) (of_is types operand.value)

unary_of_is : (types : Table) (op operand : _) → seen_kind types (kinds.UnaryOf op operand) ≡ kind_layer_at types (layers.ExprKind-F.UnaryOf op operand)
unary_of_is types op operand = ap (seen_kind types) (sym (kinds.rolls-UnaryOf op operand)) ∙ kind_is types (layers.ExprKind-F.UnaryOf op operand)

pub unary_of_node : (types : Table) (op operand : _) (at : Pos) (id : TypeId) (p : Parts) → (seen_kind types (kinds.UnaryOf op operand) at id).node p ≡ node_of.Nothing
unary_of_node types op operand at id p = ap (λ (k : Pos → TypeId → Seen). (k at id).node p) (unary_of_is types op operand)

pub unary_of_uses : (types : Table) (op operand : _) (at : Pos) (id : TypeId) (p : Parts) → (seen_kind types (kinds.UnaryOf op operand) at id).uses p ≡ (seen_expr types operand.value).uses p
unary_of_uses types op operand at id p = ap (λ (k : Pos → TypeId → Seen). (k at id).uses p) (unary_of_is types op operand)

binary_of_is : (types : Table) (op left right : _) → seen_kind types (kinds.BinaryOf op left right) ≡ kind_layer_at types (layers.ExprKind-F.BinaryOf op left right)
binary_of_is types op left right = ap (seen_kind types) (sym (kinds.rolls-BinaryOf op left right)) ∙ kind_is types (layers.ExprKind-F.BinaryOf op left right)

pub binary_of_node : (types : Table) (op left right : _) (at : Pos) (id : TypeId) (p : Parts) → (seen_kind types (kinds.BinaryOf op left right) at id).node p ≡ node_of.Nothing
binary_of_node types op left right at id p = ap (λ (k : Pos → TypeId → Seen). (k at id).node p) (binary_of_is types op left right)

pub binary_of_uses : (types : Table) (op left right : _) (at : Pos) (id : TypeId) (p : Parts) → (seen_kind types (kinds.BinaryOf op left right) at id).uses p ≡ (seen_expr types left.value).uses p ++ (seen_expr types right.value).uses p
binary_of_uses types op left right at id p = ap (λ (k : Pos → TypeId → Seen). (k at id).uses p) (binary_of_is types op left right)

compare_of_is : (types : Table) (op left right : _) → seen_kind types (kinds.CompareOf op left right) ≡ kind_layer_at types (layers.ExprKind-F.CompareOf op left right)
compare_of_is types op left right = ap (seen_kind types) (sym (kinds.rolls-CompareOf op left right)) ∙ kind_is types (layers.ExprKind-F.CompareOf op left right)

pub compare_of_node : (types : Table) (op left right : _) (at : Pos) (id : TypeId) (p : Parts) → (seen_kind types (kinds.CompareOf op left right) at id).node p ≡ node_of.Nothing
compare_of_node types op left right at id p = ap (λ (k : Pos → TypeId → Seen). (k at id).node p) (compare_of_is types op left right)

pub compare_of_uses : (types : Table) (op left right : _) (at : Pos) (id : TypeId) (p : Parts) → (seen_kind types (kinds.CompareOf op left right) at id).uses p ≡ (seen_expr types left.value).uses p ++ (seen_expr types right.value).uses p
compare_of_uses types op left right at id p = ap (λ (k : Pos → TypeId → Seen). (k at id).uses p) (compare_of_is types op left right)

and_also_is : (types : Table) (left right : _) → seen_kind types (kinds.AndAlso left right) ≡ kind_layer_at types (layers.ExprKind-F.AndAlso left right)
and_also_is types left right = ap (seen_kind types) (sym (kinds.rolls-AndAlso left right)) ∙ kind_is types (layers.ExprKind-F.AndAlso left right)

pub and_also_node : (types : Table) (left right : _) (at : Pos) (id : TypeId) (p : Parts) → (seen_kind types (kinds.AndAlso left right) at id).node p ≡ node_of.Nothing
and_also_node types left right at id p = ap (λ (k : Pos → TypeId → Seen). (k at id).node p) (and_also_is types left right)

pub and_also_uses : (types : Table) (left right : _) (at : Pos) (id : TypeId) (p : Parts) → (seen_kind types (kinds.AndAlso left right) at id).uses p ≡ (seen_expr types left.value).uses p ++ (seen_expr types right.value).uses p
and_also_uses types left right at id p = ap (λ (k : Pos → TypeId → Seen). (k at id).uses p) (and_also_is types left right)

or_else_is : (types : Table) (left right : _) → seen_kind types (kinds.OrElse left right) ≡ kind_layer_at types (layers.ExprKind-F.OrElse left right)
or_else_is types left right = ap (seen_kind types) (sym (kinds.rolls-OrElse left right)) ∙ kind_is types (layers.ExprKind-F.OrElse left right)

pub or_else_node : (types : Table) (left right : _) (at : Pos) (id : TypeId) (p : Parts) → (seen_kind types (kinds.OrElse left right) at id).node p ≡ node_of.Nothing
or_else_node types left right at id p = ap (λ (k : Pos → TypeId → Seen). (k at id).node p) (or_else_is types left right)

pub or_else_uses : (types : Table) (left right : _) (at : Pos) (id : TypeId) (p : Parts) → (seen_kind types (kinds.OrElse left right) at id).uses p ≡ (seen_expr types left.value).uses p ++ (seen_expr types right.value).uses p
or_else_uses types left right at id p = ap (λ (k : Pos → TypeId → Seen). (k at id).uses p) (or_else_is types left right)

receive_is : (types : Table) (channel comma_ok : _) → seen_kind types (kinds.Receive channel comma_ok) ≡ kind_layer_at types (layers.ExprKind-F.Receive channel comma_ok)
receive_is types channel comma_ok = ap (seen_kind types) (sym (kinds.rolls-Receive channel comma_ok)) ∙ kind_is types (layers.ExprKind-F.Receive channel comma_ok)

pub receive_node : (types : Table) (channel comma_ok : _) (at : Pos) (id : TypeId) (p : Parts) → (seen_kind types (kinds.Receive channel comma_ok) at id).node p ≡ node_of.Chan id
receive_node types channel comma_ok at id p = ap (λ (k : Pos → TypeId → Seen). (k at id).node p) (receive_is types channel comma_ok)

pub receive_uses : (types : Table) (channel comma_ok : _) (at : Pos) (id : TypeId) (p : Parts) → (seen_kind types (kinds.Receive channel comma_ok) at id).uses p ≡ (seen_expr types channel.value).uses p
receive_uses types channel comma_ok at id p = ap (λ (k : Pos → TypeId → Seen). (k at id).uses p) (receive_is types channel comma_ok)

pub receive_parts : (types : Table) (channel comma_ok : _) (at : Pos) (id : TypeId) (p : Parts) → (seen_kind types (kinds.Receive channel comma_ok) at id).parts p ≡ parts_of.Received
receive_parts types channel comma_ok at id p = ap (λ (k : Pos → TypeId → Seen). (k at id).parts p) (receive_is types channel comma_ok)

call_of_is : (types : Table) (callee arguments : _) → seen_kind types (kinds.CallOf callee arguments) ≡ kind_layer_at types (layers.ExprKind-F.CallOf callee arguments)
call_of_is types callee arguments = ap (seen_kind types) (sym (kinds.rolls-CallOf callee arguments)) ∙ kind_is types (layers.ExprKind-F.CallOf callee arguments)

pub call_of_node : (types : Table) (callee arguments : _) (at : Pos) (id : TypeId) (p : Parts) → (seen_kind types (kinds.CallOf callee arguments) at id).node p ≡ part_node types (seen_callee types callee).results 0 id
call_of_node types callee arguments at id p = ap (λ (k : Pos → TypeId → Seen). (k at id).node p) (call_of_is types callee arguments)

pub call_of_uses : (types : Table) (callee arguments : _) (at : Pos) (id : TypeId) (p : Parts) → (seen_kind types (kinds.CallOf callee arguments) at id).uses p ≡ (seen_callee types callee).uses p ++ ((seen_values types arguments).uses p ++ called_with p at (seen_callee types callee) (seen_values types arguments))
call_of_uses types callee arguments at id p = ap (λ (k : Pos → TypeId → Seen). (k at id).uses p) (call_of_is types callee arguments)

pub call_of_parts : (types : Table) (callee arguments : _) (at : Pos) (id : TypeId) (p : Parts) → (seen_kind types (kinds.CallOf callee arguments) at id).parts p ≡ (seen_callee types callee).results
call_of_parts types callee arguments at id p = ap (λ (k : Pos → TypeId → Seen). (k at id).parts p) (call_of_is types callee arguments)

builtin_of_is : (types : Table) (builtin form arguments spread : _) → seen_kind types (kinds.BuiltinOf builtin form arguments spread) ≡ kind_layer_at types (layers.ExprKind-F.BuiltinOf builtin form arguments spread)
builtin_of_is types builtin form arguments spread = ap (seen_kind types) (sym (kinds.rolls-BuiltinOf builtin form arguments spread)) ∙ kind_is types (layers.ExprKind-F.BuiltinOf builtin form arguments spread)

pub builtin_of_node : (types : Table) (builtin form arguments spread : _) (at : Pos) (id : TypeId) (p : Parts) → (seen_kind types (kinds.BuiltinOf builtin form arguments spread) at id).node p ≡ built_in_node builtin
builtin_of_node types builtin form arguments spread at id p = ap (λ (k : Pos → TypeId → Seen). (k at id).node p) (builtin_of_is types builtin form arguments spread)

pub builtin_of_uses : (types : Table) (builtin form arguments spread : _) (at : Pos) (id : TypeId) (p : Parts) → (seen_kind types (kinds.BuiltinOf builtin form arguments spread) at id).uses p ≡ uses_of p (seen_all types arguments.items) ++ built_in_uses p builtin (seen_all types arguments.items)
builtin_of_uses types builtin form arguments spread at id p = ap (λ (k : Pos → TypeId → Seen). (k at id).uses p) (builtin_of_is types builtin form arguments spread)

convert_to_is : (types : Table) (operand : _) → seen_kind types (kinds.ConvertTo operand) ≡ kind_layer_at types (layers.ExprKind-F.ConvertTo operand)
convert_to_is types operand = ap (seen_kind types) (sym (kinds.rolls-ConvertTo operand)) ∙ kind_is types (layers.ExprKind-F.ConvertTo operand)

pub convert_to_node : (types : Table) (operand : _) (at : Pos) (id : TypeId) (p : Parts) → (seen_kind types (kinds.ConvertTo operand) at id).node p ≡ (seen_expr types operand.value).node p
convert_to_node types operand at id p = ap (λ (k : Pos → TypeId → Seen). (k at id).node p) (convert_to_is types operand)

pub convert_to_uses : (types : Table) (operand : _) (at : Pos) (id : TypeId) (p : Parts) → (seen_kind types (kinds.ConvertTo operand) at id).uses p ≡ (seen_expr types operand.value).uses p
convert_to_uses types operand at id p = ap (λ (k : Pos → TypeId → Seen). (k at id).uses p) (convert_to_is types operand)

to_interface_is : (types : Table) (operand : _) → seen_kind types (kinds.ToInterface operand) ≡ kind_layer_at types (layers.ExprKind-F.ToInterface operand)
to_interface_is types operand = ap (seen_kind types) (sym (kinds.rolls-ToInterface operand)) ∙ kind_is types (layers.ExprKind-F.ToInterface operand)

pub to_interface_node : (types : Table) (operand : _) (at : Pos) (id : TypeId) (p : Parts) → (seen_kind types (kinds.ToInterface operand) at id).node p ≡ boxed_node types p (seen_expr types operand.value)
to_interface_node types operand at id p = ap (λ (k : Pos → TypeId → Seen). (k at id).node p) (to_interface_is types operand)

pub to_interface_uses : (types : Table) (operand : _) (at : Pos) (id : TypeId) (p : Parts) → (seen_kind types (kinds.ToInterface operand) at id).uses p ≡ (seen_expr types operand.value).uses p ++ boxed_uses types p (seen_expr types operand.value)
to_interface_uses types operand at id p = ap (λ (k : Pos → TypeId → Seen). (k at id).uses p) (to_interface_is types operand)

assert_to_is : (types : Table) (operand to comma_ok : _) → seen_kind types (kinds.AssertTo operand to comma_ok) ≡ kind_layer_at types (layers.ExprKind-F.AssertTo operand to comma_ok)
assert_to_is types operand to comma_ok = ap (seen_kind types) (sym (kinds.rolls-AssertTo operand to comma_ok)) ∙ kind_is types (layers.ExprKind-F.AssertTo operand to comma_ok)

pub assert_to_node : (types : Table) (operand to comma_ok : _) (at : Pos) (id : TypeId) (p : Parts) → (seen_kind types (kinds.AssertTo operand to comma_ok) at id).node p ≡ asserted types id ((seen_expr types operand.value).node p)
assert_to_node types operand to comma_ok at id p = ap (λ (k : Pos → TypeId → Seen). (k at id).node p) (assert_to_is types operand to comma_ok)

pub assert_to_uses : (types : Table) (operand to comma_ok : _) (at : Pos) (id : TypeId) (p : Parts) → (seen_kind types (kinds.AssertTo operand to comma_ok) at id).uses p ≡ (seen_expr types operand.value).uses p
assert_to_uses types operand to comma_ok at id p = ap (λ (k : Pos → TypeId → Seen). (k at id).uses p) (assert_to_is types operand to comma_ok)

pub assert_to_parts : (types : Table) (operand to comma_ok : _) (at : Pos) (id : TypeId) (p : Parts) → (seen_kind types (kinds.AssertTo operand to comma_ok) at id).parts p ≡ parts_of.First (asserted types to ((seen_expr types operand.value).node p))
assert_to_parts types operand to comma_ok at id p = ap (λ (k : Pos → TypeId → Seen). (k at id).parts p) (assert_to_is types operand to comma_ok)

composite_of_is : (types : Table) (elements : _) → seen_kind types (kinds.CompositeOf elements) ≡ kind_layer_at types (layers.ExprKind-F.CompositeOf elements)
composite_of_is types elements = ap (seen_kind types) (sym (kinds.rolls-CompositeOf elements)) ∙ kind_is types (layers.ExprKind-F.CompositeOf elements)

pub composite_of_node : (types : Table) (elements : _) (at : Pos) (id : TypeId) (p : Parts) → (seen_kind types (kinds.CompositeOf elements) at id).node p ≡ node_of.Nothing
composite_of_node types elements at id p = ap (λ (k : Pos → TypeId → Seen). (k at id).node p) (composite_of_is types elements)

pub composite_of_uses : (types : Table) (elements : _) (at : Pos) (id : TypeId) (p : Parts) → (seen_kind types (kinds.CompositeOf elements) at id).uses p ≡ seen_elements types elements id p
composite_of_uses types elements at id p = ap (λ (k : Pos → TypeId → Seen). (k at id).uses p) (composite_of_is types elements)

part_of_is : (types : Table) (part : _) → seen_kind types (kinds.PartOf part) ≡ kind_layer_at types (layers.ExprKind-F.PartOf part)
part_of_is types part = ap (seen_kind types) (sym (kinds.rolls-PartOf part)) ∙ kind_is types (layers.ExprKind-F.PartOf part)

pub part_of_node : (types : Table) (part : _) (at : Pos) (id : TypeId) (p : Parts) → (seen_kind types (kinds.PartOf part) at id).node p ≡ part_node types p part id
part_of_node types part at id p = ap (λ (k : Pos → TypeId → Seen). (k at id).node p) (part_of_is types part)

pub part_of_uses : (types : Table) (part : _) (at : Pos) (id : TypeId) (p : Parts) → (seen_kind types (kinds.PartOf part) at id).uses p ≡ []
part_of_uses types part at id p = ap (λ (k : Pos → TypeId → Seen). (k at id).uses p) (part_of_is types part)

pub ruleset node_forms = (node_is, of_is, const_of_node, nil_of_node, var_of_node, function_of_node, literal_of_node, method_value_node, method_expr_node, field_of_node, index_of_node, map_index_node, slice_of_node, deref_node, address_of_node, unary_of_node, binary_of_node, compare_of_node, and_also_node, or_else_node, receive_node, call_of_node, builtin_of_node, convert_to_node, to_interface_node, assert_to_node, composite_of_node, part_of_node)

pub ruleset use_forms = (append_assoc, append-nil, uses_is, of_is, const_of_uses, nil_of_uses, var_of_uses, function_of_uses, literal_of_uses, method_value_uses, method_expr_uses, field_of_uses, index_of_uses, map_index_uses, slice_of_uses, deref_uses, address_of_uses, unary_of_uses, binary_of_uses, compare_of_uses, and_also_uses, or_else_uses, receive_uses, call_of_uses, builtin_of_uses, convert_to_uses, to_interface_uses, assert_to_uses, composite_of_uses, part_of_uses)

pub ruleset types_of = (of_is, append_assoc, append-nil)

pub layer_parts : (types : Table) (y : ExprKind-F Callee Elements ExprKind Values EntryInit FieldInit ItemInit TypedExpr) (at : Pos) (id : TypeId) (p : Parts) → ((callee : _) (arguments : _) → roll-ExprKind y ≡ kinds.CallOf callee arguments → ⊥) → ((table key comma_ok : _) → roll-ExprKind y ≡ kinds.MapIndex table key comma_ok → ⊥) → ((channel comma_ok : _) → roll-ExprKind y ≡ kinds.Receive channel comma_ok → ⊥) → ((operand to comma_ok : _) → roll-ExprKind y ≡ kinds.AssertTo operand to comma_ok → ⊥) → (kind_layer_at types y at id).parts p ≡ parts_of.Nothing
layer_parts types (layers.ExprKind-F.CallOf callee arguments) at id p call table receive assert = absurd (call callee arguments (kinds.rolls-CallOf callee arguments))
layer_parts types (layers.ExprKind-F.MapIndex map key comma_ok) at id p call table receive assert = absurd (table map key comma_ok (kinds.rolls-MapIndex map key comma_ok))
layer_parts types (layers.ExprKind-F.Receive channel comma_ok) at id p call table receive assert = absurd (receive channel comma_ok (kinds.rolls-Receive channel comma_ok))
layer_parts types (layers.ExprKind-F.AssertTo operand to comma_ok) at id p call table receive assert = absurd (assert operand to comma_ok (kinds.rolls-AssertTo operand to comma_ok))
layer_parts types _ at id p call table receive assert = refl

-- an expression of another form has no parts
pub other_parts : (types : Table) (x : TypedExpr) (p : Parts) → ((callee : _) (arguments : _) → x.kind ≡ kinds.CallOf callee arguments → ⊥) → ((table key comma_ok : _) → x.kind ≡ kinds.MapIndex table key comma_ok → ⊥) → ((channel comma_ok : _) → x.kind ≡ kinds.Receive channel comma_ok → ⊥) → ((operand to comma_ok : _) → x.kind ≡ kinds.AssertTo operand to comma_ok → ⊥) → (seen_expr types x).parts p ≡ parts_of.Nothing
other_parts types x p call table receive assert =
    parts_is types x p ∙ ap (λ (k : Pos → TypeId → Seen). (k x.at x.of).parts p) (kind_out types x.kind) ∙ layer_parts types (out-ExprKind x.kind) x.at x.of p
    (λ callee arguments e. call callee arguments (sym (roll-out-ExprKind x.kind) ∙ e))
    (λ map key comma_ok e. table map key comma_ok (sym (roll-out-ExprKind x.kind) ∙ e))
    (λ channel comma_ok e. receive channel comma_ok (sym (roll-out-ExprKind x.kind) ∙ e))
    (λ operand to comma_ok e. assert operand to comma_ok (sym (roll-out-ExprKind x.kind) ∙ e))

pub ruleset part_forms = (parts_is, call_of_parts, map_index_parts, receive_parts, assert_to_parts)

-- ---- what is called, by its form

function_is : (types : Table) (function : _) → seen_callee types (callees.Function function) ≡ callee_layer_at types (layers.Callee-F.Function function)
function_is types function = ap (seen_callee types) (sym (callees.rolls-Function function)) ∙ callee_is types (layers.Callee-F.Function function)

pub function_uses : (types : Table) (function : _) (p : Parts) → (seen_callee types (callees.Function function)).uses p ≡ []
function_uses types function p = ap (λ (c : SeenCallee). c.uses p) (function_is types function)

pub function_call : (types : Table) (function : _) (p : Parts) (at : Pos) (first : Node) → (seen_callee types (callees.Function function)).call p at first ≡ calls_fixed at function
function_call types function p at first = ap (λ (c : SeenCallee). c.call p at first) (function_is types function)

pub function_results : (types : Table) (function : _) → (seen_callee types (callees.Function function)).results ≡ parts_of.Returned function
function_results types function = ap (λ (c : SeenCallee). c.results) (function_is types function)

pub function_into : (types : Table) (function : _) → (seen_callee types (callees.Function function)).into ≡ (λ (i : ℕ). node_of.Parameter function i)
function_into types function = ap (λ (c : SeenCallee). c.into) (function_is types function)

literal_is : (types : Table) (function : _) → seen_callee types (callees.Literal function) ≡ callee_layer_at types (layers.Callee-F.Literal function)
literal_is types function = ap (seen_callee types) (sym (callees.rolls-Literal function)) ∙ callee_is types (layers.Callee-F.Literal function)

pub literal_uses : (types : Table) (function : _) (p : Parts) → (seen_callee types (callees.Literal function)).uses p ≡ []
literal_uses types function p = ap (λ (c : SeenCallee). c.uses p) (literal_is types function)

pub literal_call : (types : Table) (function : _) (p : Parts) (at : Pos) (first : Node) → (seen_callee types (callees.Literal function)).call p at first ≡ calls_fixed at function
literal_call types function p at first = ap (λ (c : SeenCallee). c.call p at first) (literal_is types function)

pub literal_results : (types : Table) (function : _) → (seen_callee types (callees.Literal function)).results ≡ parts_of.Returned function
literal_results types function = ap (λ (c : SeenCallee). c.results) (literal_is types function)

pub literal_into : (types : Table) (function : _) → (seen_callee types (callees.Literal function)).into ≡ (λ (i : ℕ). node_of.Parameter function i)
literal_into types function = ap (λ (c : SeenCallee). c.into) (literal_is types function)

method_is : (types : Table) (receiver function : _) → seen_callee types (callees.Method receiver function) ≡ callee_layer_at types (layers.Callee-F.Method receiver function)
method_is types receiver function = ap (seen_callee types) (sym (callees.rolls-Method receiver function)) ∙ callee_is types (layers.Callee-F.Method receiver function)

pub method_uses : (types : Table) (receiver function : _) (p : Parts) → (seen_callee types (callees.Method receiver function)).uses p ≡ (seen_expr types receiver.value).uses p
method_uses types receiver function p = ap (λ (c : SeenCallee). c.uses p) (method_is types receiver function)

pub method_call : (types : Table) (receiver function : _) (p : Parts) (at : Pos) (first : Node) → (seen_callee types (callees.Method receiver function)).call p at first ≡ calls_fixed at function ++ flow ((seen_expr types receiver.value).node p) (node_of.Parameter function 0)
method_call types receiver function p at first = ap (λ (c : SeenCallee). c.call p at first) (method_is types receiver function)

pub method_results : (types : Table) (receiver function : _) → (seen_callee types (callees.Method receiver function)).results ≡ parts_of.Returned function
method_results types receiver function = ap (λ (c : SeenCallee). c.results) (method_is types receiver function)

pub method_into : (types : Table) (receiver function : _) → (seen_callee types (callees.Method receiver function)).into ≡ (λ (i : ℕ). node_of.Parameter function (suc i))
method_into types receiver function = ap (λ (c : SeenCallee). c.into) (method_is types receiver function)

interface_is : (types : Table) (receiver name package_number : _) → seen_callee types (callees.Interface receiver name package_number) ≡ callee_layer_at types (layers.Callee-F.Interface receiver name package_number)
interface_is types receiver name package_number = ap (seen_callee types) (sym (callees.rolls-Interface receiver name package_number)) ∙ callee_is types (layers.Callee-F.Interface receiver name package_number)

pub interface_uses : (types : Table) (receiver name package_number : _) (p : Parts) → (seen_callee types (callees.Interface receiver name package_number)).uses p ≡ (seen_expr types receiver.value).uses p
interface_uses types receiver name package_number p = ap (λ (c : SeenCallee). c.uses p) (interface_is types receiver name package_number)

pub interface_call : (types : Table) (receiver name package_number : _) (p : Parts) (at : Pos) (first : Node) → (seen_callee types (callees.Interface receiver name package_number)).call p at first ≡ calls_chosen at ((seen_expr types receiver.value).node p) node_of.Nothing (selected receiver.value.of name package_number)
interface_call types receiver name package_number p at first = ap (λ (c : SeenCallee). c.call p at first) (interface_is types receiver name package_number) ∙ ap (λ (of : TypeId). calls_chosen at ((seen_expr types receiver.value).node p) node_of.Nothing (selected of name package_number)) (of_is types receiver.value)

pub interface_results : (types : Table) (receiver name package_number : _) → (seen_callee types (callees.Interface receiver name package_number)).results ≡ parts_of.Outcome (selected receiver.value.of name package_number)
interface_results types receiver name package_number = ap (λ (c : SeenCallee). c.results) (interface_is types receiver name package_number) ∙ ap (λ (of : TypeId). parts_of.Outcome (selected of name package_number)) (of_is types receiver.value)

pub interface_into : (types : Table) (receiver name package_number : _) → (seen_callee types (callees.Interface receiver name package_number)).into ≡ (λ (i : ℕ). node_of.Argument (selected receiver.value.of name package_number) i)
interface_into types receiver name package_number = ap (λ (c : SeenCallee). c.into) (interface_is types receiver name package_number) ∙ ap (λ (of : TypeId). (λ (i : ℕ). node_of.Argument (selected of name package_number) i)) (of_is types receiver.value)

value_is : (types : Table) (value : _) → seen_callee types (callees.Value value) ≡ callee_layer_at types (layers.Callee-F.Value value)
value_is types value = ap (seen_callee types) (sym (callees.rolls-Value value)) ∙ callee_is types (layers.Callee-F.Value value)

pub value_uses : (types : Table) (value : _) (p : Parts) → (seen_callee types (callees.Value value)).uses p ≡ (seen_expr types value.value).uses p
value_uses types value p = ap (λ (c : SeenCallee). c.uses p) (value_is types value)

pub value_call : (types : Table) (value : _) (p : Parts) (at : Pos) (first : Node) → (seen_callee types (callees.Value value)).call p at first ≡ calls_chosen at ((seen_expr types value.value).node p) first (group_of.Signed value.value.of)
value_call types value p at first = ap (λ (c : SeenCallee). c.call p at first) (value_is types value) ∙ ap (λ (of : TypeId). calls_chosen at ((seen_expr types value.value).node p) first (group_of.Signed of)) (of_is types value.value)

pub value_results : (types : Table) (value : _) → (seen_callee types (callees.Value value)).results ≡ parts_of.Outcome (group_of.Signed value.value.of)
value_results types value = ap (λ (c : SeenCallee). c.results) (value_is types value) ∙ ap (λ (of : TypeId). parts_of.Outcome (group_of.Signed of)) (of_is types value.value)

pub value_into : (types : Table) (value : _) → (seen_callee types (callees.Value value)).into ≡ (λ (i : ℕ). node_of.Argument (group_of.Signed value.value.of) i)
value_into types value = ap (λ (c : SeenCallee). c.into) (value_is types value) ∙ ap (λ (of : TypeId). (λ (i : ℕ). node_of.Argument (group_of.Signed of) i)) (of_is types value.value)

pub ruleset callee_forms = (append_assoc, append-nil, function_uses, function_call, function_results, function_into, literal_uses, literal_call, literal_results, literal_into, method_uses, method_call, method_results, method_into, interface_uses, interface_call, interface_results, interface_into, value_uses, value_call, value_results, value_into)

-- ---- the values of a list, by its form

each_is : (types : Table) (exprs : _) → seen_values types (values.Each exprs) ≡ values_layer_at types (layers.Values-F.Each exprs)
each_is types exprs = ap (seen_values types) (sym (values.rolls-Each exprs)) ∙ values_is types (layers.Values-F.Each exprs)

spread_is : (types : Table) (tuple parts : _) → seen_values types (values.Spread tuple parts) ≡ values_layer_at types (layers.Values-F.Spread tuple parts)
spread_is types tuple parts = ap (seen_values types) (sym (values.rolls-Spread tuple parts)) ∙ values_is types (layers.Values-F.Spread tuple parts)

pub each_uses : (types : Table) (exprs : _) (p : Parts) → (seen_values types (values.Each exprs)).uses p ≡ uses_of p (seen_all types exprs.items)
each_uses types exprs p = ap (λ (s : SeenValues). s.uses p) (each_is types exprs)

pub spread_uses : (types : Table) (tuple parts : _) (p : Parts) → (seen_values types (values.Spread tuple parts)).uses p ≡ (seen_expr types tuple.value).uses p ++ uses_of ((seen_expr types tuple.value).parts p) (seen_all types parts.items)
spread_uses types tuple parts p = ap (λ (s : SeenValues). s.uses p) (spread_is types tuple parts)

pub each_parts : (types : Table) (exprs : _) (p : Parts) → (seen_values types (values.Each exprs)).parts p ≡ p
each_parts types exprs p = ap (λ (s : SeenValues). s.parts p) (each_is types exprs)

pub spread_parts : (types : Table) (tuple parts : _) (p : Parts) → (seen_values types (values.Spread tuple parts)).parts p ≡ (seen_expr types tuple.value).parts p
spread_parts types tuple parts p = ap (λ (s : SeenValues). s.parts p) (spread_is types tuple parts)

layer_exprs_are : (types : Table) (x : Values-F Callee Elements ExprKind Values EntryInit FieldInit ItemInit TypedExpr) → (values_layer_at types x).exprs ≡ seen_all types (layer_exprs x)
layer_exprs_are types (layers.Values-F.Each exprs) = refl
layer_exprs_are types (layers.Values-F.Spread tuple parts) = refl

pub exprs_are : (types : Table) (x : Values) → (seen_values types x).exprs ≡ seen_all types (value_exprs x)
unfolding value_exprs
exprs_are types x = ap (λ (s : SeenValues). s.exprs) (values_out types x) ∙ layer_exprs_are types (out-Values x)

pub each_exprs : (exprs : _) → value_exprs (values.Each exprs) ≡ exprs.items
unfolding value_exprs
each_exprs exprs = ap layer_exprs (values.outs-Each exprs)

pub spread_exprs : (tuple parts : _) → value_exprs (values.Spread tuple parts) ≡ parts.items
unfolding value_exprs
spread_exprs tuple parts = ap layer_exprs (values.outs-Spread tuple parts)

pub ruleset values_seen = (append_assoc, append-nil, exprs_are, each_exprs, spread_exprs, each_uses, spread_uses, each_parts, spread_parts)

-- ---- composite literals, by their form

pub fields_are : (types : Table) (fields : _) (id : TypeId) (p : Parts) → seen_elements types (elements_of.Fields fields) id p ≡ flat_map (set_field id p) (map (seen_field types) fields.items)
fields_are types fields id p = ap (λ (k : TypeId → Parts → List Mention). k id p) (ap (seen_elements types) (sym (elements_of.rolls-Fields fields)) ∙ elements_is types (layers.Elements-F.Fields fields))

pub items_are : (types : Table) (items len : _) (id : TypeId) (p : Parts) → seen_elements types (elements_of.Items items len) id p ≡ flat_map (set_item p) (map (seen_item types) items.items)
items_are types items len id p = ap (λ (k : TypeId → Parts → List Mention). k id p) (ap (seen_elements types) (sym (elements_of.rolls-Items items len)) ∙ elements_is types (layers.Elements-F.Items items len))

pub entries_are : (types : Table) (entries : _) (id : TypeId) (p : Parts) → seen_elements types (elements_of.Entries entries) id p ≡ flat_map (set_entry p) (map (seen_entry types) entries.items)
entries_are types entries id p = ap (λ (k : TypeId → Parts → List Mention). k id p) (ap (seen_elements types) (sym (elements_of.rolls-Entries entries)) ∙ elements_is types (layers.Elements-F.Entries entries))

pub ruleset composites = (fields_are, items_are, entries_are)

field_is : (types : Table) (x : FieldInit) → seen_field types x ≡ record { field = x.field; value = seen_expr types x.value }
unfolding seen_callee seen_elements seen_kind seen_values seen_entry seen_field seen_item seen_expr
field_is types x = fold-roll-FieldInit SeenCallee (TypeId → Parts → List Mention) (Pos → TypeId → Seen) SeenValues SeenEntry SeenField Seen Seen (callee_layer types) (elements_layer types) (kind_layer types) (values_layer types) (entry_layer types) (field_layer types) (item_layer types) (expr_layer types) (record { field = x.field; value = x.value })

pub field_number : (types : Table) (x : FieldInit) → (seen_field types x).field ≡ x.field
field_number types x = ap (λ (s : SeenField). s.field) (field_is types x)

pub field_value : (types : Table) (x : FieldInit) → (seen_field types x).value ≡ seen_expr types x.value
field_value types x = ap (λ (s : SeenField). s.value) (field_is types x)

pub item_value : (types : Table) (x : ItemInit) → seen_item types x ≡ seen_expr types x.value
unfolding seen_callee seen_elements seen_kind seen_values seen_entry seen_field seen_item seen_expr
item_value types x = fold-roll-ItemInit SeenCallee (TypeId → Parts → List Mention) (Pos → TypeId → Seen) SeenValues SeenEntry SeenField Seen Seen (callee_layer types) (elements_layer types) (kind_layer types) (values_layer types) (entry_layer types) (field_layer types) (item_layer types) (expr_layer types) (record { index = x.index; value = x.value })

entry_is : (types : Table) (x : EntryInit) → seen_entry types x ≡ record { key = seen_expr types x.key; value = seen_expr types x.value }
unfolding seen_callee seen_elements seen_kind seen_values seen_entry seen_field seen_item seen_expr
entry_is types x = fold-roll-EntryInit SeenCallee (TypeId → Parts → List Mention) (Pos → TypeId → Seen) SeenValues SeenEntry SeenField Seen Seen (callee_layer types) (elements_layer types) (kind_layer types) (values_layer types) (entry_layer types) (field_layer types) (item_layer types) (expr_layer types) (record { key = x.key; value = x.value })

pub entry_key : (types : Table) (x : EntryInit) → (seen_entry types x).key ≡ seen_expr types x.key
entry_key types x = ap (λ (s : SeenEntry). s.key) (entry_is types x)

pub entry_value : (types : Table) (x : EntryInit) → (seen_entry types x).value ≡ seen_expr types x.value
entry_value types x = ap (λ (s : SeenEntry). s.value) (entry_is types x)

pub ruleset fields = (append_assoc, field_number, field_value, item_value, entry_key, entry_value)
