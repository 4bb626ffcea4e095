-- What the forms of expressions are seen as.
use Rattle.std.proofs.Common.{◌≡◌, refl, sym, ap, ◌∙◌, List, [], ◌∷◌, ◌++◌, map, Some, None}
use Rattle.std.specs.Prelude.{flat_map}
use Rattle.go_base.specs.declared.ids.VarId.{VarId}
use Rattle.go_tree.specs.declared.exprs.Callee.{Callee}
use Rattle.go_tree.specs.declared.exprs.Elements.{Elements}
use Rattle.go_tree.specs.declared.exprs.EntryInit.{EntryInit}
use Rattle.go_tree.specs.declared.exprs.ExprKind.{ExprKind}
use Rattle.go_tree.specs.declared.exprs.FieldInit.{FieldInit}
use Rattle.go_tree.specs.declared.exprs.IndexBase.{IndexBase}
use Rattle.go_tree.specs.declared.exprs.IndexBase.TheVariants as base_of
use Rattle.go_tree.specs.declared.exprs.ItemInit.{ItemInit}
use Rattle.go_tree.specs.declared.exprs.TypedExpr.{TypedExpr}
use Rattle.go_tree.specs.declared.exprs.Values.{Values}
use Rattle.go_tree.specs.declared.exprs.Callee.TheOpen as layers
use Rattle.go_tree.specs.declared.exprs.Callee.TheOpen.{Callee-F, Elements-F, ExprKind-F, Values-F}
use Rattle.go_tree.specs.declared.exprs.Callee.TheVariants as callees
use Rattle.go_tree.specs.declared.exprs.Elements.TheVariants as elements_of
use Rattle.go_tree.specs.declared.exprs.ExprKind.TheVariants as kinds
use Rattle.go_tree.specs.declared.exprs.Values.TheVariants as values
use Rattle.go_tree.specs.declared.exprs.Callee.TheViews.{roll-Callee, roll-Elements, roll-ExprKind, roll-Values}
use Rattle.go_tree.specs.declared.exprs.Callee.TheFolds.{fold-roll-Callee, fold-roll-Elements, fold-roll-ExprKind, fold-roll-Values, fold-roll-EntryInit, fold-roll-FieldInit, fold-roll-ItemInit, fold-roll-TypedExpr, map-Callee, map-Elements, map-ExprKind, map-Values}
use Rattle.tree_facts.specs.Roots.{Rooted, apart, part_of, element_of, listed, taken_in, joined, callee_layer, values_layer, elements_layer, kind_layer, entry_layer, field_layer, item_layer, expr_layer, taken_callee, taken_elements, rooted_kind, taken_values, taken_entry, taken_field, taken_item, rooted, taken, taken_each, taken_in_some}

abbrev kind_layer_at : ExprKind-F Callee Elements ExprKind Values EntryInit FieldInit ItemInit TypedExpr → Rooted
kind_layer_at x = kind_layer (map-ExprKind Callee Elements ExprKind Values EntryInit FieldInit ItemInit TypedExpr (List VarId) (List VarId) Rooted (List VarId) (List VarId) (List VarId) (List VarId) Rooted taken_callee taken_elements rooted_kind taken_values taken_entry taken_field taken_item rooted x)

exprkind_is : (x : ExprKind-F Callee Elements ExprKind Values EntryInit FieldInit ItemInit TypedExpr) → rooted_kind (roll-ExprKind x) ≡ kind_layer_at x
unfolding taken_callee taken_elements rooted_kind taken_values taken_entry taken_field taken_item rooted
exprkind_is x = fold-roll-ExprKind (List VarId) (List VarId) Rooted (List VarId) (List VarId) (List VarId) (List VarId) Rooted callee_layer elements_layer kind_layer values_layer entry_layer field_layer item_layer expr_layer x

abbrev callee_layer_at : Callee-F Callee Elements ExprKind Values EntryInit FieldInit ItemInit TypedExpr → List VarId
callee_layer_at x = callee_layer (map-Callee Callee Elements ExprKind Values EntryInit FieldInit ItemInit TypedExpr (List VarId) (List VarId) Rooted (List VarId) (List VarId) (List VarId) (List VarId) Rooted taken_callee taken_elements rooted_kind taken_values taken_entry taken_field taken_item rooted x)

callee_is : (x : Callee-F Callee Elements ExprKind Values EntryInit FieldInit ItemInit TypedExpr) → taken_callee (roll-Callee x) ≡ callee_layer_at x
unfolding taken_callee taken_elements rooted_kind taken_values taken_entry taken_field taken_item rooted
callee_is x = fold-roll-Callee (List VarId) (List VarId) Rooted (List VarId) (List VarId) (List VarId) (List VarId) Rooted callee_layer elements_layer kind_layer values_layer entry_layer field_layer item_layer expr_layer x

abbrev values_layer_at : Values-F Callee Elements ExprKind Values EntryInit FieldInit ItemInit TypedExpr → List VarId
values_layer_at x = values_layer (map-Values Callee Elements ExprKind Values EntryInit FieldInit ItemInit TypedExpr (List VarId) (List VarId) Rooted (List VarId) (List VarId) (List VarId) (List VarId) Rooted taken_callee taken_elements rooted_kind taken_values taken_entry taken_field taken_item rooted x)

values_is : (x : Values-F Callee Elements ExprKind Values EntryInit FieldInit ItemInit TypedExpr) → taken_values (roll-Values x) ≡ values_layer_at x
unfolding taken_callee taken_elements rooted_kind taken_values taken_entry taken_field taken_item rooted
values_is x = fold-roll-Values (List VarId) (List VarId) Rooted (List VarId) (List VarId) (List VarId) (List VarId) Rooted callee_layer elements_layer kind_layer values_layer entry_layer field_layer item_layer expr_layer x

abbrev elements_layer_at : Elements-F Callee Elements ExprKind Values EntryInit FieldInit ItemInit TypedExpr → List VarId
elements_layer_at x = elements_layer (map-Elements Callee Elements ExprKind Values EntryInit FieldInit ItemInit TypedExpr (List VarId) (List VarId) Rooted (List VarId) (List VarId) (List VarId) (List VarId) Rooted taken_callee taken_elements rooted_kind taken_values taken_entry taken_field taken_item rooted x)

elements_is : (x : Elements-F Callee Elements ExprKind Values EntryInit FieldInit ItemInit TypedExpr) → taken_elements (roll-Elements x) ≡ elements_layer_at x
unfolding taken_callee taken_elements rooted_kind taken_values taken_entry taken_field taken_item rooted
elements_is x = fold-roll-Elements (List VarId) (List VarId) Rooted (List VarId) (List VarId) (List VarId) (List VarId) Rooted callee_layer elements_layer kind_layer values_layer entry_layer field_layer item_layer expr_layer x

-- ---- whole expressions

pub expr_is : (x : TypedExpr) → rooted x ≡ rooted_kind x.kind
unfolding taken_callee taken_elements rooted_kind taken_values taken_entry taken_field taken_item rooted
expr_is x = fold-roll-TypedExpr (List VarId) (List VarId) Rooted (List VarId) (List VarId) (List VarId) (List VarId) Rooted callee_layer elements_layer kind_layer values_layer entry_layer field_layer item_layer expr_layer (record { at = x.at; of = x.of; kind = x.kind })

pub field_is : (x : FieldInit) → taken_field x ≡ taken x.value
unfolding taken_callee taken_elements rooted_kind taken_values taken_entry taken_field taken_item rooted
field_is x = fold-roll-FieldInit (List VarId) (List VarId) Rooted (List VarId) (List VarId) (List VarId) (List VarId) Rooted callee_layer elements_layer kind_layer values_layer entry_layer field_layer item_layer expr_layer (record { field = x.field; value = x.value })

pub item_is : (x : ItemInit) → taken_item x ≡ taken x.value
unfolding taken_callee taken_elements rooted_kind taken_values taken_entry taken_field taken_item rooted
item_is x = fold-roll-ItemInit (List VarId) (List VarId) Rooted (List VarId) (List VarId) (List VarId) (List VarId) Rooted callee_layer elements_layer kind_layer values_layer entry_layer field_layer item_layer expr_layer (record { index = x.index; value = x.value })

pub entry_is : (x : EntryInit) → taken_entry x ≡ taken x.key ++ taken x.value
unfolding taken_callee taken_elements rooted_kind taken_values taken_entry taken_field taken_item rooted
entry_is x = fold-roll-EntryInit (List VarId) (List VarId) Rooted (List VarId) (List VarId) (List VarId) (List VarId) Rooted callee_layer elements_layer kind_layer values_layer entry_layer field_layer item_layer expr_layer (record { key = x.key; value = x.value })

-- ---- an expression by its form

pub const_of : (value : _) → rooted_kind (kinds.ConstOf value) ≡ apart []
const_of value = ap rooted_kind (sym (kinds.rolls-ConstOf value)) ∙ exprkind_is (layers.ExprKind-F.ConstOf value)

pub nil_of : rooted_kind ExprKind.NilOf ≡ apart []
nil_of = ap rooted_kind (sym kinds.rolls-NilOf) ∙ exprkind_is layers.ExprKind-F.NilOf

pub var_of : (variable : _) → rooted_kind (kinds.VarOf variable) ≡ record { root = Some variable; part = None; taken = [] }
var_of variable = ap rooted_kind (sym (kinds.rolls-VarOf variable)) ∙ exprkind_is (layers.ExprKind-F.VarOf variable)

pub function_of : (function : _) → rooted_kind (kinds.FunctionOf function) ≡ apart []
function_of function = ap rooted_kind (sym (kinds.rolls-FunctionOf function)) ∙ exprkind_is (layers.ExprKind-F.FunctionOf function)

pub literal_of : (function : _) → rooted_kind (kinds.LiteralOf function) ≡ apart []
literal_of function = ap rooted_kind (sym (kinds.rolls-LiteralOf function)) ∙ exprkind_is (layers.ExprKind-F.LiteralOf function)

pub method_value : (receiver method : _) → rooted_kind (kinds.MethodValue receiver method) ≡ apart (taken receiver.value)
method_value receiver method = ap rooted_kind (sym (kinds.rolls-MethodValue receiver method)) ∙ exprkind_is (layers.ExprKind-F.MethodValue receiver method)

pub method_expr : (receiver name package_number : _) → rooted_kind (kinds.MethodExpr receiver name package_number) ≡ apart []
method_expr receiver name package_number = ap rooted_kind (sym (kinds.rolls-MethodExpr receiver name package_number)) ∙ exprkind_is (layers.ExprKind-F.MethodExpr receiver name package_number)

pub field_of : (operand field : _) → rooted_kind (kinds.FieldOf operand field) ≡ part_of (rooted operand.value) (taken operand.value)
field_of operand field = ap rooted_kind (sym (kinds.rolls-FieldOf operand field)) ∙ exprkind_is (layers.ExprKind-F.FieldOf operand field)

pub index_of : (base operand index : _) → rooted_kind (kinds.IndexOf base operand index) ≡ element_of base (rooted operand.value) (taken operand.value ++ taken index.value)
index_of base operand index = ap rooted_kind (sym (kinds.rolls-IndexOf base operand index)) ∙ exprkind_is (layers.ExprKind-F.IndexOf base operand index)

pub map_index : (table key comma_ok : _) → rooted_kind (kinds.MapIndex table key comma_ok) ≡ apart (taken table.value ++ taken key.value)
map_index table key comma_ok = ap rooted_kind (sym (kinds.rolls-MapIndex table key comma_ok)) ∙ exprkind_is (layers.ExprKind-F.MapIndex table key comma_ok)

pub deref : (operand : _) → rooted_kind (kinds.Deref operand) ≡ apart (taken operand.value)
deref operand = ap rooted_kind (sym (kinds.rolls-Deref operand)) ∙ exprkind_is (layers.ExprKind-F.Deref operand)

pub address_of : (operand : _) → rooted_kind (kinds.AddressOf operand) ≡ apart (listed (rooted operand.value).root ++ taken operand.value)
address_of operand = ap rooted_kind (sym (kinds.rolls-AddressOf operand)) ∙ exprkind_is (layers.ExprKind-F.AddressOf operand)

pub unary_of : (op operand : _) → rooted_kind (kinds.UnaryOf op operand) ≡ apart (taken operand.value)
unary_of op operand = ap rooted_kind (sym (kinds.rolls-UnaryOf op operand)) ∙ exprkind_is (layers.ExprKind-F.UnaryOf op operand)

pub binary_of : (op left right : _) → rooted_kind (kinds.BinaryOf op left right) ≡ apart (taken left.value ++ taken right.value)
binary_of op left right = ap rooted_kind (sym (kinds.rolls-BinaryOf op left right)) ∙ exprkind_is (layers.ExprKind-F.BinaryOf op left right)

pub compare_of : (op left right : _) → rooted_kind (kinds.CompareOf op left right) ≡ apart (taken left.value ++ taken right.value)
compare_of op left right = ap rooted_kind (sym (kinds.rolls-CompareOf op left right)) ∙ exprkind_is (layers.ExprKind-F.CompareOf op left right)

pub and_also : (left right : _) → rooted_kind (kinds.AndAlso left right) ≡ apart (taken left.value ++ taken right.value)
and_also left right = ap rooted_kind (sym (kinds.rolls-AndAlso left right)) ∙ exprkind_is (layers.ExprKind-F.AndAlso left right)

pub or_else : (left right : _) → rooted_kind (kinds.OrElse left right) ≡ apart (taken left.value ++ taken right.value)
or_else left right = ap rooted_kind (sym (kinds.rolls-OrElse left right)) ∙ exprkind_is (layers.ExprKind-F.OrElse left right)

pub receive : (channel comma_ok : _) → rooted_kind (kinds.Receive channel comma_ok) ≡ apart (taken channel.value)
receive channel comma_ok = ap rooted_kind (sym (kinds.rolls-Receive channel comma_ok)) ∙ exprkind_is (layers.ExprKind-F.Receive channel comma_ok)

pub call_of : (callee arguments : _) → rooted_kind (kinds.CallOf callee arguments) ≡ apart (taken_callee callee ++ taken_values arguments)
call_of callee arguments = ap rooted_kind (sym (kinds.rolls-CallOf callee arguments)) ∙ exprkind_is (layers.ExprKind-F.CallOf callee arguments)

pub convert_to : (operand : _) → rooted_kind (kinds.ConvertTo operand) ≡ apart (taken operand.value)
convert_to operand = ap rooted_kind (sym (kinds.rolls-ConvertTo operand)) ∙ exprkind_is (layers.ExprKind-F.ConvertTo operand)

pub to_interface : (operand : _) → rooted_kind (kinds.ToInterface operand) ≡ apart (taken operand.value)
to_interface operand = ap rooted_kind (sym (kinds.rolls-ToInterface operand)) ∙ exprkind_is (layers.ExprKind-F.ToInterface operand)

pub assert_to : (operand to comma_ok : _) → rooted_kind (kinds.AssertTo operand to comma_ok) ≡ apart (taken operand.value)
assert_to operand to comma_ok = ap rooted_kind (sym (kinds.rolls-AssertTo operand to comma_ok)) ∙ exprkind_is (layers.ExprKind-F.AssertTo operand to comma_ok)

pub composite_of : (elements : _) → rooted_kind (kinds.CompositeOf elements) ≡ apart (taken_elements elements)
composite_of elements = ap rooted_kind (sym (kinds.rolls-CompositeOf elements)) ∙ exprkind_is (layers.ExprKind-F.CompositeOf elements)

pub part_of_several : (part : _) → rooted_kind (kinds.PartOf part) ≡ apart []
part_of_several part = ap rooted_kind (sym (kinds.rolls-PartOf part)) ∙ exprkind_is (layers.ExprKind-F.PartOf part)

pub slice_of : (base operand low high max : _) → rooted_kind (kinds.SliceOf base operand low high max) ≡ apart (taken operand.value ++ (taken_in_some low ++ (taken_in_some high ++ taken_in_some max)))
slice_of base operand None None None = ap rooted_kind (sym (kinds.rolls-SliceOf base operand None None None)) ∙ exprkind_is (layers.ExprKind-F.SliceOf base operand None None None)
slice_of base operand None None (Some m) = ap rooted_kind (sym (kinds.rolls-SliceOf base operand None None (Some m))) ∙ exprkind_is (layers.ExprKind-F.SliceOf base operand None None (Some m))
slice_of base operand None (Some h) None = ap rooted_kind (sym (kinds.rolls-SliceOf base operand None (Some h) None)) ∙ exprkind_is (layers.ExprKind-F.SliceOf base operand None (Some h) None)
slice_of base operand None (Some h) (Some m) = ap rooted_kind (sym (kinds.rolls-SliceOf base operand None (Some h) (Some m))) ∙ exprkind_is (layers.ExprKind-F.SliceOf base operand None (Some h) (Some m))
slice_of base operand (Some l) None None = ap rooted_kind (sym (kinds.rolls-SliceOf base operand (Some l) None None)) ∙ exprkind_is (layers.ExprKind-F.SliceOf base operand (Some l) None None)
slice_of base operand (Some l) None (Some m) = ap rooted_kind (sym (kinds.rolls-SliceOf base operand (Some l) None (Some m))) ∙ exprkind_is (layers.ExprKind-F.SliceOf base operand (Some l) None (Some m))
slice_of base operand (Some l) (Some h) None = ap rooted_kind (sym (kinds.rolls-SliceOf base operand (Some l) (Some h) None)) ∙ exprkind_is (layers.ExprKind-F.SliceOf base operand (Some l) (Some h) None)
slice_of base operand (Some l) (Some h) (Some m) = ap rooted_kind (sym (kinds.rolls-SliceOf base operand (Some l) (Some h) (Some m))) ∙ exprkind_is (layers.ExprKind-F.SliceOf base operand (Some l) (Some h) (Some m))

taken_map : (xs : List TypedExpr) → taken_in (map rooted xs) ≡ taken_each xs
taken_map [] = refl
taken_map (x ∷ xs) = ap (λ (y : List VarId). taken x ++ y) (taken_map xs)

joined_map : {A : Type 0} (f : A → List VarId) (xs : List A) → joined (map f xs) ≡ flat_map f xs
joined_map f [] = refl
joined_map f (x ∷ xs) = ap (λ (y : List VarId). f x ++ y) (joined_map f xs)

pub builtin_of : (builtin form arguments spread : _) → rooted_kind (kinds.BuiltinOf builtin form arguments spread) ≡ apart (taken_each arguments.items)
builtin_of builtin None arguments spread = ap rooted_kind (sym (kinds.rolls-BuiltinOf builtin None arguments spread)) ∙ (exprkind_is (layers.ExprKind-F.BuiltinOf builtin None arguments spread) ∙ ap apart (taken_map arguments.items))
builtin_of builtin (Some id) arguments spread = ap rooted_kind (sym (kinds.rolls-BuiltinOf builtin (Some id) arguments spread)) ∙ (exprkind_is (layers.ExprKind-F.BuiltinOf builtin (Some id) arguments spread) ∙ ap apart (taken_map arguments.items))

pub element_taken : (base : IndexBase) (whole : Rooted) (list : List VarId) → (element_of base whole list).taken ≡ list
unfolding element_of
element_taken base_of.Array whole list = refl
element_taken base_of.Slice whole list = refl
element_taken base_of.Text whole list = refl

pub ruleset kind_forms = (const_of, nil_of, var_of, function_of, literal_of, method_value, method_expr, field_of, index_of, map_index, deref, address_of, unary_of, binary_of, compare_of, and_also, or_else, receive, call_of, convert_to, to_interface, assert_to, composite_of, part_of_several, slice_of, builtin_of, element_taken)

-- ---- a callee, values and elements by their form

pub function_callee : (function : _) → taken_callee (callees.Function function) ≡ []
function_callee function = ap taken_callee (sym (callees.rolls-Function function)) ∙ callee_is (layers.Callee-F.Function function)

pub literal_callee : (function : _) → taken_callee (callees.Literal function) ≡ []
literal_callee function = ap taken_callee (sym (callees.rolls-Literal function)) ∙ callee_is (layers.Callee-F.Literal function)

pub method_callee : (receiver function : _) → taken_callee (callees.Method receiver function) ≡ taken receiver.value
method_callee receiver function = ap taken_callee (sym (callees.rolls-Method receiver function)) ∙ callee_is (layers.Callee-F.Method receiver function)

pub interface_callee : (receiver name package_number : _) → taken_callee (callees.Interface receiver name package_number) ≡ taken receiver.value
interface_callee receiver name package_number = ap taken_callee (sym (callees.rolls-Interface receiver name package_number)) ∙ callee_is (layers.Callee-F.Interface receiver name package_number)

pub value_callee : (value : _) → taken_callee (callees.Value value) ≡ taken value.value
value_callee value = ap taken_callee (sym (callees.rolls-Value value)) ∙ callee_is (layers.Callee-F.Value value)

pub each_values : (exprs : _) → taken_values (values.Each exprs) ≡ taken_each exprs.items
each_values exprs = ap taken_values (sym (values.rolls-Each exprs)) ∙ (values_is (layers.Values-F.Each exprs) ∙ taken_map exprs.items)

pub spread_values : (tuple parts : _) → taken_values (values.Spread tuple parts) ≡ taken tuple.value ++ taken_each parts.items
spread_values tuple parts = ap taken_values (sym (values.rolls-Spread tuple parts)) ∙ (values_is (layers.Values-F.Spread tuple parts) ∙ ap (λ (y : List VarId). taken tuple.value ++ y) (taken_map parts.items))

pub fields_elements : (fields : _) → taken_elements (elements_of.Fields fields) ≡ flat_map taken_field fields.items
fields_elements fields = ap taken_elements (sym (elements_of.rolls-Fields fields)) ∙ (elements_is (layers.Elements-F.Fields fields) ∙ joined_map taken_field fields.items)

pub items_elements : (items len : _) → taken_elements (elements_of.Items items len) ≡ flat_map taken_item items.items
items_elements items len = ap taken_elements (sym (elements_of.rolls-Items items len)) ∙ (elements_is (layers.Elements-F.Items items len) ∙ joined_map taken_item items.items)

pub entries_elements : (entries : _) → taken_elements (elements_of.Entries entries) ≡ flat_map taken_entry entries.items
entries_elements entries = ap taken_elements (sym (elements_of.rolls-Entries entries)) ∙ (elements_is (layers.Elements-F.Entries entries) ∙ joined_map taken_entry entries.items)

pub ruleset list_forms = (function_callee, literal_callee, method_callee, interface_callee, value_callee, each_values, spread_values, fields_elements, items_elements, entries_elements)
