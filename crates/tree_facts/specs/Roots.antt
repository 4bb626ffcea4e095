-- Which variable a place lies in, and of which variables an expression takes an address. A line for each form.
use Rattle.std.specs.Prelude.{List, [], ◌∷◌, ◌++◌, Option, Some, None, flat_map}
use Rattle.std.specs.Global.{Box}
use Rattle.go_base.specs.declared.ids.VarId.{VarId}
use Rattle.go_tree.specs.declared.exprs.Callee.{Callee}
use Rattle.go_tree.specs.declared.exprs.Elements.{Elements}
use Rattle.go_tree.specs.declared.exprs.EntryInit.{EntryInit}
use Rattle.go_tree.specs.declared.exprs.ExprKind.{ExprKind}
use Rattle.go_tree.specs.declared.exprs.FieldInit.{FieldInit}
use Rattle.go_tree.specs.declared.exprs.IndexBase.{IndexBase}
use Rattle.go_tree.specs.declared.exprs.IndexBase.TheVariants as base_of
use Rattle.go_tree.specs.declared.exprs.ItemInit.{ItemInit}
use Rattle.go_tree.specs.declared.exprs.TypedExpr.{TypedExpr}
use Rattle.go_tree.specs.declared.exprs.Values.{Values}
use Rattle.go_tree.specs.declared.exprs.Callee.TheOpen as layers
use Rattle.go_tree.specs.declared.exprs.Callee.TheFolds.{fold-Callee, fold-Elements, fold-ExprKind, fold-Values}
use Rattle.go_tree.specs.declared.exprs.Callee.TheFolds.{fold-EntryInit, fold-FieldInit, fold-ItemInit, fold-TypedExpr}

-- an expression: the variable that it is or of which it is a part, the variable of which it is a part and not the
-- whole, and the variables whose address, or that of a part, is taken in it
pub record Rooted : Type 0 where
  pub root : Option VarId
  pub part : Option VarId
  pub taken : List VarId

-- one that lies in no variable: a value, or what is reached through a pointer, a slice or a map
abbrev pub apart : List VarId → Rooted
apart taken = record { root = None; part = None; taken = taken }

-- a part of another
abbrev pub part_of : Rooted → List VarId → Rooted
part_of whole taken = record { root = whole.root; part = whole.root; taken = taken }

-- an element of an array is a part of it
unfoldable pub element_of : IndexBase → Rooted → List VarId → Rooted
element_of base_of.Array whole taken = part_of whole taken
element_of _ whole taken = apart taken

unfoldable pub listed : Option VarId → List VarId
listed None = []
listed (Some v) = v ∷ []

abbrev pub taken_if : Option (Box Rooted) → List VarId
taken_if None = []
taken_if (Some x) = x.value.taken

abbrev pub taken_in : List Rooted → List VarId
taken_in xs = flat_map (λ (x : Rooted). x.taken) xs

abbrev pub joined : List (List VarId) → List VarId
joined xs = flat_map (λ (x : List VarId). x) xs

-- ---- one layer of each tree, where what is below it is seen already

abbrev pub callee_layer :
    layers.Callee-F (List VarId) (List VarId) Rooted (List VarId) (List VarId) (List VarId) (List VarId) Rooted
    → List VarId
callee_layer (layers.Callee-F.Function function) = []
callee_layer (layers.Callee-F.Literal function) = []
callee_layer (layers.Callee-F.Method receiver function) = receiver.value.taken
callee_layer (layers.Callee-F.Interface receiver name package_number) = receiver.value.taken
callee_layer (layers.Callee-F.Value value) = value.value.taken

abbrev pub values_layer :
    layers.Values-F (List VarId) (List VarId) Rooted (List VarId) (List VarId) (List VarId) (List VarId) Rooted
    → List VarId
values_layer (layers.Values-F.Each exprs) = taken_in exprs.items
values_layer (layers.Values-F.Spread tuple parts) = tuple.value.taken ++ taken_in parts.items

abbrev pub elements_layer :
    layers.Elements-F (List VarId) (List VarId) Rooted (List VarId) (List VarId) (List VarId) (List VarId) Rooted
    → List VarId
elements_layer (layers.Elements-F.Fields fields) = joined fields.items
elements_layer (layers.Elements-F.Items items len) = joined items.items
elements_layer (layers.Elements-F.Entries entries) = joined entries.items

abbrev pub kind_layer :
    layers.ExprKind-F (List VarId) (List VarId) Rooted (List VarId) (List VarId) (List VarId) (List VarId) Rooted
    → Rooted
kind_layer (layers.ExprKind-F.ConstOf value) = apart []
kind_layer (layers.ExprKind-F.NilOf) = apart []
kind_layer (layers.ExprKind-F.VarOf variable) = record { root = Some variable; part = None; taken = [] }
kind_layer (layers.ExprKind-F.FunctionOf function) = apart []
kind_layer (layers.ExprKind-F.LiteralOf function) = apart []
kind_layer (layers.ExprKind-F.MethodValue receiver method) = apart receiver.value.taken
kind_layer (layers.ExprKind-F.MethodExpr receiver name package_number) = apart []
kind_layer (layers.ExprKind-F.FieldOf operand field) = part_of operand.value operand.value.taken
kind_layer (layers.ExprKind-F.IndexOf base operand index) =
    element_of base operand.value (operand.value.taken ++ index.value.taken)
kind_layer (layers.ExprKind-F.MapIndex table key comma_ok) = apart (table.value.taken ++ key.value.taken)
kind_layer (layers.ExprKind-F.SliceOf base operand low high max) =
    apart (operand.value.taken ++ (taken_if low ++ (taken_if high ++ taken_if max)))
kind_layer (layers.ExprKind-F.Deref operand) = apart operand.value.taken
kind_layer (layers.ExprKind-F.AddressOf operand) = apart (listed operand.value.root ++ operand.value.taken)
kind_layer (layers.ExprKind-F.UnaryOf op operand) = apart operand.value.taken
kind_layer (layers.ExprKind-F.BinaryOf op left right) = apart (left.value.taken ++ right.value.taken)
kind_layer (layers.ExprKind-F.CompareOf op left right) = apart (left.value.taken ++ right.value.taken)
kind_layer (layers.ExprKind-F.AndAlso left right) = apart (left.value.taken ++ right.value.taken)
kind_layer (layers.ExprKind-F.OrElse left right) = apart (left.value.taken ++ right.value.taken)
kind_layer (layers.ExprKind-F.Receive channel comma_ok) = apart channel.value.taken
kind_layer (layers.ExprKind-F.CallOf callee arguments) = apart (callee ++ arguments)
kind_layer (layers.ExprKind-F.BuiltinOf builtin form arguments spread) = apart (taken_in arguments.items)
kind_layer (layers.ExprKind-F.ConvertTo operand) = apart operand.value.taken
kind_layer (layers.ExprKind-F.ToInterface operand) = apart operand.value.taken
kind_layer (layers.ExprKind-F.AssertTo operand to comma_ok) = apart operand.value.taken
kind_layer (layers.ExprKind-F.CompositeOf elements) = apart elements
kind_layer (layers.ExprKind-F.PartOf part) = apart []

abbrev pub entry_layer :
    layers.EntryInit-F (List VarId) (List VarId) Rooted (List VarId) (List VarId) (List VarId) (List VarId) Rooted
    → List VarId
entry_layer x = x.key.taken ++ x.value.taken

abbrev pub field_layer :
    layers.FieldInit-F (List VarId) (List VarId) Rooted (List VarId) (List VarId) (List VarId) (List VarId) Rooted
    → List VarId
field_layer x = x.value.taken

abbrev pub item_layer :
    layers.ItemInit-F (List VarId) (List VarId) Rooted (List VarId) (List VarId) (List VarId) (List VarId) Rooted
    → List VarId
item_layer x = x.value.taken

abbrev pub expr_layer :
    layers.TypedExpr-F (List VarId) (List VarId) Rooted (List VarId) (List VarId) (List VarId) (List VarId) Rooted
    → Rooted
expr_layer x = x.kind

-- ---- whole trees

unfoldable pub taken_callee : Callee → List VarId
taken_callee =
    fold-Callee (List VarId) (List VarId) Rooted (List VarId) (List VarId) (List VarId) (List VarId) Rooted callee_layer
    elements_layer kind_layer values_layer entry_layer field_layer item_layer expr_layer

unfoldable pub taken_elements : Elements → List VarId
taken_elements =
    fold-Elements (List VarId) (List VarId) Rooted (List VarId) (List VarId) (List VarId) (List VarId) Rooted
    callee_layer elements_layer kind_layer values_layer entry_layer field_layer item_layer expr_layer

unfoldable pub rooted_kind : ExprKind → Rooted
rooted_kind =
    fold-ExprKind (List VarId) (List VarId) Rooted (List VarId) (List VarId) (List VarId) (List VarId) Rooted
    callee_layer elements_layer kind_layer values_layer entry_layer field_layer item_layer expr_layer

unfoldable pub taken_values : Values → List VarId
taken_values =
    fold-Values (List VarId) (List VarId) Rooted (List VarId) (List VarId) (List VarId) (List VarId) Rooted callee_layer
    elements_layer kind_layer values_layer entry_layer field_layer item_layer expr_layer

unfoldable pub taken_entry : EntryInit → List VarId
taken_entry =
    fold-EntryInit (List VarId) (List VarId) Rooted (List VarId) (List VarId) (List VarId) (List VarId) Rooted
    callee_layer elements_layer kind_layer values_layer entry_layer field_layer item_layer expr_layer

unfoldable pub taken_field : FieldInit → List VarId
taken_field =
    fold-FieldInit (List VarId) (List VarId) Rooted (List VarId) (List VarId) (List VarId) (List VarId) Rooted
    callee_layer elements_layer kind_layer values_layer entry_layer field_layer item_layer expr_layer

unfoldable pub taken_item : ItemInit → List VarId
taken_item =
    fold-ItemInit (List VarId) (List VarId) Rooted (List VarId) (List VarId) (List VarId) (List VarId) Rooted
    callee_layer elements_layer kind_layer values_layer entry_layer field_layer item_layer expr_layer

unfoldable pub rooted : TypedExpr → Rooted
rooted =
    fold-TypedExpr (List VarId) (List VarId) Rooted (List VarId) (List VarId) (List VarId) (List VarId) Rooted
    callee_layer elements_layer kind_layer values_layer entry_layer field_layer item_layer expr_layer

-- the variables whose address, or that of a part, is taken in an expression
abbrev pub taken : TypedExpr → List VarId
taken x = (rooted x).taken

abbrev pub taken_each : List TypedExpr → List VarId
taken_each xs = flat_map taken xs

abbrev pub taken_in_some : Option (Box TypedExpr) → List VarId
taken_in_some None = []
taken_in_some (Some x) = taken x.value
