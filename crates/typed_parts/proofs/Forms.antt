-- What expressions are told by their forms: whether they are places, and whether a call stands in them.
use Rattle.std.proofs.Common.{◌≡◌, refl, sym, ap, ◌∙◌, List, [], ◌∷◌, map, Bool, Some, None}
use Rattle.std.specs.Prelude.{◌||◌, true, false}
use Rattle.std.specs.List.{list_any}
use Rattle.go_tree.specs.declared.exprs.Callee.{Callee}
use Rattle.go_tree.specs.declared.exprs.Elements.{Elements}
use Rattle.go_tree.specs.declared.exprs.EntryInit.{EntryInit}
use Rattle.go_tree.specs.declared.exprs.ExprKind.{ExprKind}
use Rattle.go_tree.specs.declared.exprs.FieldInit.{FieldInit}
use Rattle.go_tree.specs.declared.exprs.ItemInit.{ItemInit}
use Rattle.go_tree.specs.declared.exprs.TypedExpr.{TypedExpr}
use Rattle.go_tree.specs.declared.exprs.Values.{Values}
use Rattle.go_tree.specs.declared.exprs.Callee.TheOpen as layers
use Rattle.go_tree.specs.declared.exprs.Callee.TheOpen.{Elements-F, ExprKind-F}
use Rattle.go_tree.specs.declared.exprs.Elements.TheVariants as elements_of
use Rattle.go_tree.specs.declared.exprs.ExprKind.TheVariants as kinds
use Rattle.go_tree.specs.declared.exprs.Callee.TheViews.{roll-Elements, roll-ExprKind}
use Rattle.go_tree.specs.declared.exprs.Callee.TheFolds.{fold-roll-Elements, fold-roll-ExprKind, fold-roll-EntryInit, fold-roll-FieldInit, fold-roll-ItemInit, fold-roll-TypedExpr, map-Elements, map-ExprKind}
use Rattle.typed_parts.specs.Looks.{Look, value, place, is_element_place, bound_holds_call, callee_layer, values_layer, elements_layer, kind_layer, entry_layer, field_layer, item_layer, expr_layer, holds_callee, holds_elements, look_kind, holds_values, holds_entry, holds_field, holds_item, look, holds_call}

abbrev kind_layer_at : ExprKind-F Callee Elements ExprKind Values EntryInit FieldInit ItemInit TypedExpr → Look
kind_layer_at x = kind_layer (map-ExprKind Callee Elements ExprKind Values EntryInit FieldInit ItemInit TypedExpr Bool Bool Look Bool Bool Bool Bool Look holds_callee holds_elements look_kind holds_values holds_entry holds_field holds_item look x)

kind_is : (x : ExprKind-F Callee Elements ExprKind Values EntryInit FieldInit ItemInit TypedExpr) → look_kind (roll-ExprKind x) ≡ kind_layer_at x
unfolding holds_callee holds_elements look_kind holds_values holds_entry holds_field holds_item look
kind_is x = fold-roll-ExprKind Bool Bool Look Bool Bool Bool Bool Look callee_layer elements_layer kind_layer values_layer entry_layer field_layer item_layer expr_layer x

abbrev elements_layer_at : Elements-F Callee Elements ExprKind Values EntryInit FieldInit ItemInit TypedExpr → Bool
elements_layer_at x = elements_layer (map-Elements Callee Elements ExprKind Values EntryInit FieldInit ItemInit TypedExpr Bool Bool Look Bool Bool Bool Bool Look holds_callee holds_elements look_kind holds_values holds_entry holds_field holds_item look x)

elements_is : (x : Elements-F Callee Elements ExprKind Values EntryInit FieldInit ItemInit TypedExpr) → holds_elements (roll-Elements x) ≡ elements_layer_at x
unfolding holds_callee holds_elements look_kind holds_values holds_entry holds_field holds_item look
elements_is x = fold-roll-Elements Bool Bool Look Bool Bool Bool Bool Look callee_layer elements_layer kind_layer values_layer entry_layer field_layer item_layer expr_layer x

-- ---- whole expressions

pub expr_is : (x : TypedExpr) → look x ≡ look_kind x.kind
unfolding holds_callee holds_elements look_kind holds_values holds_entry holds_field holds_item look
expr_is x = fold-roll-TypedExpr Bool Bool Look Bool Bool Bool Bool Look callee_layer elements_layer kind_layer values_layer entry_layer field_layer item_layer expr_layer (record { at = x.at; of = x.of; kind = x.kind })

field_is : (x : FieldInit) → holds_field x ≡ holds_call x.value
unfolding holds_callee holds_elements look_kind holds_values holds_entry holds_field holds_item look
field_is x = fold-roll-FieldInit Bool Bool Look Bool Bool Bool Bool Look callee_layer elements_layer kind_layer values_layer entry_layer field_layer item_layer expr_layer (record { field = x.field; value = x.value })

item_is : (x : ItemInit) → holds_item x ≡ holds_call x.value
unfolding holds_callee holds_elements look_kind holds_values holds_entry holds_field holds_item look
item_is x = fold-roll-ItemInit Bool Bool Look Bool Bool Bool Bool Look callee_layer elements_layer kind_layer values_layer entry_layer field_layer item_layer expr_layer (record { index = x.index; value = x.value })

entry_is : (x : EntryInit) → holds_entry x ≡ (holds_call x.key || holds_call x.value)
unfolding holds_callee holds_elements look_kind holds_values holds_entry holds_field holds_item look
entry_is x = fold-roll-EntryInit Bool Bool Look Bool Bool Bool Bool Look callee_layer elements_layer kind_layer values_layer entry_layer field_layer item_layer expr_layer (record { key = x.key; value = x.value })

-- ---- an expression by its form

pub const_of : (constant : _) → look_kind (kinds.ConstOf constant) ≡ value false
const_of constant = ap look_kind (sym (kinds.rolls-ConstOf constant)) ∙ kind_is (layers.ExprKind-F.ConstOf constant)

pub nil_of : look_kind ExprKind.NilOf ≡ value false
nil_of = ap look_kind (sym kinds.rolls-NilOf) ∙ kind_is layers.ExprKind-F.NilOf

pub var_of : (variable : _) → look_kind (kinds.VarOf variable) ≡ place false
var_of variable = ap look_kind (sym (kinds.rolls-VarOf variable)) ∙ kind_is (layers.ExprKind-F.VarOf variable)

pub function_of : (function : _) → look_kind (kinds.FunctionOf function) ≡ value false
function_of function = ap look_kind (sym (kinds.rolls-FunctionOf function)) ∙ kind_is (layers.ExprKind-F.FunctionOf function)

pub literal_of : (function : _) → look_kind (kinds.LiteralOf function) ≡ value false
literal_of function = ap look_kind (sym (kinds.rolls-LiteralOf function)) ∙ kind_is (layers.ExprKind-F.LiteralOf function)

pub method_value : (receiver method : _) → look_kind (kinds.MethodValue receiver method) ≡ value (holds_call receiver.value)
method_value receiver method = ap look_kind (sym (kinds.rolls-MethodValue receiver method)) ∙ kind_is (layers.ExprKind-F.MethodValue receiver method)

pub method_expr : (receiver name package_number : _) → look_kind (kinds.MethodExpr receiver name package_number) ≡ value false
method_expr receiver name package_number = ap look_kind (sym (kinds.rolls-MethodExpr receiver name package_number)) ∙ kind_is (layers.ExprKind-F.MethodExpr receiver name package_number)

pub field_of : (operand field : _) → look_kind (kinds.FieldOf operand field) ≡ record { is_place = (look operand.value).is_place; holds_call = (look operand.value).holds_call }
field_of operand field = ap look_kind (sym (kinds.rolls-FieldOf operand field)) ∙ kind_is (layers.ExprKind-F.FieldOf operand field)

pub index_of : (base operand index : _) → look_kind (kinds.IndexOf base operand index) ≡ record { is_place = is_element_place base (look operand.value).is_place; holds_call = (look operand.value).holds_call || (look index.value).holds_call }
index_of base operand index = ap look_kind (sym (kinds.rolls-IndexOf base operand index)) ∙ kind_is (layers.ExprKind-F.IndexOf base operand index)

pub map_index : (table key comma_ok : _) → look_kind (kinds.MapIndex table key comma_ok) ≡ value (holds_call table.value || holds_call key.value)
map_index table key comma_ok = ap look_kind (sym (kinds.rolls-MapIndex table key comma_ok)) ∙ kind_is (layers.ExprKind-F.MapIndex table key comma_ok)

pub deref : (operand : _) → look_kind (kinds.Deref operand) ≡ place (holds_call operand.value)
deref operand = ap look_kind (sym (kinds.rolls-Deref operand)) ∙ kind_is (layers.ExprKind-F.Deref operand)

pub address_of : (operand : _) → look_kind (kinds.AddressOf operand) ≡ value (holds_call operand.value)
address_of operand = ap look_kind (sym (kinds.rolls-AddressOf operand)) ∙ kind_is (layers.ExprKind-F.AddressOf operand)

pub unary_of : (op operand : _) → look_kind (kinds.UnaryOf op operand) ≡ value (holds_call operand.value)
unary_of op operand = ap look_kind (sym (kinds.rolls-UnaryOf op operand)) ∙ kind_is (layers.ExprKind-F.UnaryOf op operand)

pub binary_of : (op left right : _) → look_kind (kinds.BinaryOf op left right) ≡ value (holds_call left.value || holds_call right.value)
binary_of op left right = ap look_kind (sym (kinds.rolls-BinaryOf op left right)) ∙ kind_is (layers.ExprKind-F.BinaryOf op left right)

pub compare_of : (op left right : _) → look_kind (kinds.CompareOf op left right) ≡ value (holds_call left.value || holds_call right.value)
compare_of op left right = ap look_kind (sym (kinds.rolls-CompareOf op left right)) ∙ kind_is (layers.ExprKind-F.CompareOf op left right)

pub and_also : (left right : _) → look_kind (kinds.AndAlso left right) ≡ value (holds_call left.value || holds_call right.value)
and_also left right = ap look_kind (sym (kinds.rolls-AndAlso left right)) ∙ kind_is (layers.ExprKind-F.AndAlso left right)

pub or_else : (left right : _) → look_kind (kinds.OrElse left right) ≡ value (holds_call left.value || holds_call right.value)
or_else left right = ap look_kind (sym (kinds.rolls-OrElse left right)) ∙ kind_is (layers.ExprKind-F.OrElse left right)

pub receive : (channel comma_ok : _) → look_kind (kinds.Receive channel comma_ok) ≡ value true
receive channel comma_ok = ap look_kind (sym (kinds.rolls-Receive channel comma_ok)) ∙ kind_is (layers.ExprKind-F.Receive channel comma_ok)

pub call_of : (callee arguments : _) → look_kind (kinds.CallOf callee arguments) ≡ value true
call_of callee arguments = ap look_kind (sym (kinds.rolls-CallOf callee arguments)) ∙ kind_is (layers.ExprKind-F.CallOf callee arguments)

pub convert_to : (operand : _) → look_kind (kinds.ConvertTo operand) ≡ value (holds_call operand.value)
convert_to operand = ap look_kind (sym (kinds.rolls-ConvertTo operand)) ∙ kind_is (layers.ExprKind-F.ConvertTo operand)

pub to_interface : (operand : _) → look_kind (kinds.ToInterface operand) ≡ value (holds_call operand.value)
to_interface operand = ap look_kind (sym (kinds.rolls-ToInterface operand)) ∙ kind_is (layers.ExprKind-F.ToInterface operand)

pub assert_to : (operand to comma_ok : _) → look_kind (kinds.AssertTo operand to comma_ok) ≡ value (holds_call operand.value)
assert_to operand to comma_ok = ap look_kind (sym (kinds.rolls-AssertTo operand to comma_ok)) ∙ kind_is (layers.ExprKind-F.AssertTo operand to comma_ok)

pub composite_of : (elements : _) → look_kind (kinds.CompositeOf elements) ≡ value (holds_elements elements)
composite_of elements = ap look_kind (sym (kinds.rolls-CompositeOf elements)) ∙ kind_is (layers.ExprKind-F.CompositeOf elements)

pub part_of : (part : _) → look_kind (kinds.PartOf part) ≡ value false
part_of part = ap look_kind (sym (kinds.rolls-PartOf part)) ∙ kind_is (layers.ExprKind-F.PartOf part)

pub slice_of : (base operand low high max : _) → look_kind (kinds.SliceOf base operand low high max) ≡ value (holds_call operand.value || (bound_holds_call low || (bound_holds_call high || bound_holds_call max)))
slice_of base operand None None None = ap look_kind (sym (kinds.rolls-SliceOf base operand None None None)) ∙ kind_is (layers.ExprKind-F.SliceOf base operand None None None)
slice_of base operand None None (Some m) = ap look_kind (sym (kinds.rolls-SliceOf base operand None None (Some m))) ∙ kind_is (layers.ExprKind-F.SliceOf base operand None None (Some m))
slice_of base operand None (Some h) None = ap look_kind (sym (kinds.rolls-SliceOf base operand None (Some h) None)) ∙ kind_is (layers.ExprKind-F.SliceOf base operand None (Some h) None)
slice_of base operand None (Some h) (Some m) = ap look_kind (sym (kinds.rolls-SliceOf base operand None (Some h) (Some m))) ∙ kind_is (layers.ExprKind-F.SliceOf base operand None (Some h) (Some m))
slice_of base operand (Some l) None None = ap look_kind (sym (kinds.rolls-SliceOf base operand (Some l) None None)) ∙ kind_is (layers.ExprKind-F.SliceOf base operand (Some l) None None)
slice_of base operand (Some l) None (Some m) = ap look_kind (sym (kinds.rolls-SliceOf base operand (Some l) None (Some m))) ∙ kind_is (layers.ExprKind-F.SliceOf base operand (Some l) None (Some m))
slice_of base operand (Some l) (Some h) None = ap look_kind (sym (kinds.rolls-SliceOf base operand (Some l) (Some h) None)) ∙ kind_is (layers.ExprKind-F.SliceOf base operand (Some l) (Some h) None)
slice_of base operand (Some l) (Some h) (Some m) = ap look_kind (sym (kinds.rolls-SliceOf base operand (Some l) (Some h) (Some m))) ∙ kind_is (layers.ExprKind-F.SliceOf base operand (Some l) (Some h) (Some m))

pub builtin_of : (builtin form arguments spread : _) → look_kind (kinds.BuiltinOf builtin form arguments spread) ≡ value true
builtin_of builtin None arguments spread = ap look_kind (sym (kinds.rolls-BuiltinOf builtin None arguments spread)) ∙ kind_is (layers.ExprKind-F.BuiltinOf builtin None arguments spread)
builtin_of builtin (Some id) arguments spread = ap look_kind (sym (kinds.rolls-BuiltinOf builtin (Some id) arguments spread)) ∙ kind_is (layers.ExprKind-F.BuiltinOf builtin (Some id) arguments spread)

pub ruleset kind_forms = (const_of, nil_of, var_of, function_of, literal_of, method_value, method_expr, field_of, index_of, map_index, deref, address_of, unary_of, binary_of, compare_of, and_also, or_else, receive, call_of, convert_to, to_interface, assert_to, composite_of, part_of, slice_of, builtin_of)

-- ---- elements by their form

any_map : {A : Type 0} (f g : A → Bool) → ((x : A) → f x ≡ g x) → (xs : List A)
    → list_any (λ (b : Bool). b) (map f xs) ≡ list_any g xs
any_map f g same [] = refl
any_map f g same (x ∷ xs) = ap (λ (b : Bool). b || list_any (λ (b : Bool). b) (map f xs)) (same x) ∙ ap (λ (b : Bool). g x || b) (any_map f g same xs)

pub fields_elements : (fields : _) → holds_elements (elements_of.Fields fields) ≡ list_any (λ (x : FieldInit). holds_call x.value) fields.items
fields_elements fields = ap holds_elements (sym (elements_of.rolls-Fields fields)) ∙ (elements_is (layers.Elements-F.Fields fields) ∙ any_map holds_field (λ (x : FieldInit). holds_call x.value) field_is fields.items)

pub items_elements : (items len : _) → holds_elements (elements_of.Items items len) ≡ list_any (λ (x : ItemInit). holds_call x.value) items.items
items_elements items len = ap holds_elements (sym (elements_of.rolls-Items items len)) ∙ (elements_is (layers.Elements-F.Items items len) ∙ any_map holds_item (λ (x : ItemInit). holds_call x.value) item_is items.items)

pub entries_elements : (entries : _) → holds_elements (elements_of.Entries entries) ≡ list_any (λ (x : EntryInit). holds_call x.key || holds_call x.value) entries.items
entries_elements entries = ap holds_elements (sym (elements_of.rolls-Entries entries)) ∙ (elements_is (layers.Elements-F.Entries entries) ∙ any_map holds_entry (λ (x : EntryInit). holds_call x.key || holds_call x.value) entry_is entries.items)

pub ruleset elements_forms = (fields_elements, items_elements, entries_elements)
