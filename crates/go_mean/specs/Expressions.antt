-- Expressions: what is put in the place of one, and what is made of the values of its operands, which are
-- evaluated from left to right. Go specification, "Expressions" and "Order of evaluation".
use Rattle.std.specs.Prelude.{ℕ, zero, suc, ◌+◌, ◌*◌, Bool, true, false, List, [], ◌∷◌, ◌++◌, map}
use Rattle.std.specs.Prelude.{Option, Some, None, length, slice_get, is_some, replicate, if◌then◌else◌, option_map}
use Rattle.std.specs.List.{flat_map}
use Rattle.std.specs.Option.{option_and_then}
use Rattle.std.specs.Global.{Box}
use Rattle.go_base.specs.declared.ids.FuncId.{FuncId}
use Rattle.go_base.specs.declared.ids.TypeId.{TypeId}
use Rattle.go_base.specs.declared.ids.VarId.{VarId}
use Rattle.go_base.specs.declared.place.Pos.{Pos}
use Rattle.go_store.specs.Arrays.{array_of}
use Rattle.go_store.specs.Cells.{written_at, value_at}
use Rattle.go_store.specs.Slices.{slice_of_new}
use Rattle.go_store.specs.Stores.{Stored, made}
use Rattle.go_tree.specs.declared.exprs.Callee.{Callee}
use Rattle.go_tree.specs.declared.exprs.Callee.TheOpen as layers
use Rattle.go_tree.specs.declared.exprs.Callee.TheViews.{out-ExprKind, out-Callee, out-Values, out-Elements}
use Rattle.go_tree.specs.declared.exprs.Elements.{Elements}
use Rattle.go_tree.specs.declared.exprs.EntryInit.{EntryInit}
use Rattle.go_tree.specs.declared.exprs.ExprKind.{ExprKind}
use Rattle.go_tree.specs.declared.exprs.FieldInit.{FieldInit}
use Rattle.go_tree.specs.declared.exprs.IndexBase.TheVariants as index_base
use Rattle.go_tree.specs.declared.exprs.ItemInit.{ItemInit}
use Rattle.go_tree.specs.declared.exprs.Method.{Method}
use Rattle.go_tree.specs.declared.exprs.Method.TheVariants as method
use Rattle.go_tree.specs.declared.exprs.TypedExpr.{TypedExpr}
use Rattle.go_tree.specs.declared.exprs.Values.{Values}
use Rattle.go_tree.specs.declared.program.Program.{Program}
use Rattle.go_type.specs.Kinds.{kind_of}
use Rattle.go_type.specs.Table.{Table}
use Rattle.go_type.specs.declared.constants.Const.{Const}
use Rattle.go_type.specs.declared.constants.Const.TheVariants as constant
use Rattle.go_type.specs.declared.kinds.IntKind.{IntKind}
use Rattle.go_type.specs.declared.operators.Builtin.{Builtin}
use Rattle.go_type.specs.declared.operators.Builtin.TheVariants as builtin
use Rattle.go_type.specs.declared.term.Basic.TheVariants as basic
use Rattle.go_type.specs.declared.term.TypeTerm.{TypeTerm}
use Rattle.go_type.specs.declared.term.TypeTerm.TheVariants as term
use Rattle.go_value.specs.Interfaces.{bound_to}
use Rattle.go_value.specs.Values.{Val, truth, number, text, pointer, slice, map_number, nil_interface, closure}
use Rattle.go_value.specs.Values.{expression}
use Rattle.go_value.specs.declared.address.Pointer.{Pointer}
use Rattle.go_value.specs.declared.faults.Fault.TheVariants as fault
use Rattle.go_value.specs.declared.values.BoundTarget.TheVariants as target
use Rattle.ssa_ir.specs.declared.ops.Infix.TheVariants as infix_of
use Rattle.ssa_mean.specs.Answers.{Answers}
use Rattle.ssa_mean.specs.Comes.{Comes, to, faults, nowhere, and_then, then_to, where_some, of_option, of_result}
use Rattle.ssa_mean.specs.Conversions.{Stores, kept, conversion}
use Rattle.ssa_mean.specs.Making.{leaves_of, value_or}
use Rattle.ssa_mean.specs.MapCalls.{looked_up, updated, made_map}
use Rattle.ssa_mean.specs.Operands.{under_in, base_of, length_in}
use Rattle.ssa_mean.specs.Places.{load, index_of, index_address, new_pointer}
use Rattle.ssa_mean.specs.State.{BuiltIn, appends_items, appends_slice, clears_slice, plain}
use Rattle.go_mean.specs.Calls.{body_at}
use Rattle.go_mean.specs.Places.{zero_of, value_of, cell_of, array_length, element_type}
use Rattle.go_mean.specs.State.{Called, by_function, by_method, by_value, Manner, at_once, Making, of_fields, of_array}
use Rattle.go_mean.specs.State.{of_slice, of_map, Piece, evaluate, address, operands, address_field, address_item}
use Rattle.go_mean.specs.State.{address_element, check_pointer, field, item, load as loads, lookup, cut, unary, binary}
use Rattle.go_mean.specs.State.{fork, convert, to_interface, assert, bind, hold, receive, literal, make_literal}
use Rattle.go_mean.specs.State.{make_slice, make_map, make_chan, new_variable, counted, call, built_in, Frame}

-- what stands for an expression: its pieces, or its value
pub data Opened : Type 0 where
  puts : List Piece → Opened
  finds : Comes Val → Opened

-- ---- lists of values

abbrev pub values_pieces_in :
    layers.Values-F Callee Elements ExprKind Values EntryInit FieldInit ItemInit TypedExpr → List Piece
values_pieces_in (layers.Values-F.Each exprs) = map evaluate exprs.items
values_pieces_in (layers.Values-F.Spread tuple parts) = evaluate tuple.value ∷ hold ∷ map evaluate parts.items

abbrev pub values_pieces : Values → List Piece
values_pieces values = values_pieces_in (out-Values values)

abbrev pub values_count_in :
    layers.Values-F Callee Elements ExprKind Values EntryInit FieldInit ItemInit TypedExpr → ℕ
values_count_in (layers.Values-F.Each exprs) = length exprs.items
values_count_in (layers.Values-F.Spread tuple parts) = length parts.items

abbrev pub values_count : Values → ℕ
values_count values = values_count_in (out-Values values)

-- ---- constants and function literals

abbrev pub constant_value : Const → Val
constant_value (constant.Int it) = number it
constant_value (constant.Rune it) = number it
constant_value (constant.Text it) = text it
constant_value (constant.Truth it) = truth it

-- the cells of variables
abbrev pub cells_of : Program → Frame → List VarId → Option (List Pointer)
cells_of p frame [] = Some []
cells_of p frame (v ∷ vs) =
    option_and_then (λ at. option_map (λ others. at ∷ others) (cells_of p frame vs)) (cell_of p frame v)

-- "Function literals are closures": a literal holds the cells of the variables that it captures
abbrev pub literal_value : Program → Frame → FuncId → Comes Val
literal_value p frame id =
    where_some (λ body. then_to (closure id) (of_option (cells_of p frame body.captured))) (body_at p id)

-- ---- calls: the function value or the receiver, and then the arguments

pub record Calling : Type 0 where
  pub pieces : List Piece
  pub called : Called
  -- how many values stand before the arguments and are passed with them
  pub more : ℕ

abbrev pub calling : List Piece → Called → ℕ → Calling
calling pieces called more = record { pieces = pieces; called = called; more = more }

abbrev pub is_captured : Program → FuncId → Bool
is_captured p id = is_some (option_and_then (λ body. slice_get body.captured 0) (body_at p id))

abbrev pub calling_in :
    Program → layers.Callee-F Callee Elements ExprKind Values EntryInit FieldInit ItemInit TypedExpr → Calling
calling_in p (layers.Callee-F.Function id) = calling [] (by_function id) 0
calling_in p (layers.Callee-F.Literal id) =
    if is_captured p id then calling (literal id ∷ []) by_value 0 else calling [] (by_function id) 0
calling_in p (layers.Callee-F.Method receiver id) = calling (evaluate receiver.value ∷ []) (by_function id) 1
calling_in p (layers.Callee-F.Interface receiver name package_number) =
    calling (evaluate receiver.value ∷ []) (by_method name package_number) 0
calling_in p (layers.Callee-F.Value it) = calling (evaluate it.value ∷ []) by_value 0

abbrev pub call_with : Manner → Calling → Values → Pos → List Piece
call_with manner it arguments at =
    it.pieces ++ (values_pieces arguments
    ++ call manner it.called (it.more + values_count arguments) at ∷ [])

-- ---- built-in functions

abbrev pub is_slice_term : Option TypeTerm → Bool
is_slice_term (Some (term.Slice elem)) = true
is_slice_term _ = false

-- the length of an array, or of an array that is pointed to
abbrev pub constant_length_in : Table → Option TypeTerm → Option ℕ
constant_length_in types (Some (term.Pointer base)) = array_length types base
constant_length_in types it = length_in it

abbrev pub constant_length : Table → TypeId → Option ℕ
constant_length types of = constant_length_in types (under_in types (Some of))

abbrev pub counts : Manner → Builtin → Option ℕ → Pos → List Piece
counts manner it (Some len) at = counted len ∷ []
counts manner it None at = built_in manner (plain it) 1 at ∷ []

abbrev pub first_type : List TypedExpr → Option TypeId
first_type [] = None
first_type (first ∷ others) = Some first.of

abbrev pub appends : Table → TypeId → Bool → Option BuiltIn
appends types of spread =
    option_map (λ elem. if spread then appends_slice (leaves_of types elem) else appends_items (leaves_of types elem))
    (element_type types of)

abbrev pub clears : Program → Option TypeTerm → Option BuiltIn
clears p (Some (term.Slice elem)) = option_map clears_slice (zero_of p elem)
clears p _ = Some (plain builtin.Clear)

abbrev pub built_in_where : Manner → Option BuiltIn → ℕ → Pos → Option (List Piece)
built_in_where manner it count at = option_map (λ it. built_in manner it count at ∷ []) it

-- "Making slices, maps and channels"
abbrev pub makes : TypeId → Option TypeTerm → ℕ → Option (List Piece)
makes of (Some (term.Slice elem)) (suc zero) = Some (make_slice of false ∷ [])
makes of (Some (term.Slice elem)) count = Some (make_slice of true ∷ [])
makes of (Some (term.Map key elem)) zero = Some (make_map of false ∷ [])
makes of (Some (term.Map key elem)) count = Some (make_map of true ∷ [])
makes of (Some (term.Chan dir elem)) zero = Some (make_chan of false ∷ [])
makes of (Some (term.Chan dir elem)) count = Some (make_chan of true ∷ [])
makes of _ count = None

abbrev pub built_in_of :
    Program → Manner → Builtin → TypeId → Option TypeId → List TypedExpr → Bool → Pos → Option (List Piece)
built_in_of p manner builtin.Append of form arguments spread at =
    built_in_where manner (appends p.types of spread) (length arguments) at
built_in_of p manner builtin.Len of form arguments spread at =
    option_map (λ it. counts manner builtin.Len (constant_length p.types it) at) (first_type arguments)
built_in_of p manner builtin.Cap of form arguments spread at =
    option_map (λ it. counts manner builtin.Cap (constant_length p.types it) at) (first_type arguments)
built_in_of p manner builtin.Clear of form arguments spread at =
    built_in_where manner (clears p (under_in p.types (first_type arguments))) (length arguments) at
built_in_of p manner builtin.Make of (Some form) arguments spread at =
    makes form (under_in p.types (Some form)) (length arguments)
built_in_of p manner builtin.New of (Some form) arguments spread at = Some (new_variable form ∷ [])
built_in_of p manner it of form arguments spread at = Some (built_in manner (plain it) (length arguments) at ∷ [])

abbrev pub built_in_pieces : List TypedExpr → Option (List Piece) → Opened
built_in_pieces arguments (Some pieces) = puts (map evaluate arguments ++ pieces)
built_in_pieces arguments None = finds nowhere

-- ---- composite literals: the elements in the order in which they are written

abbrev pub entry_pieces : EntryInit → List Piece
entry_pieces entry = evaluate entry.key ∷ evaluate entry.value ∷ []

abbrev pub element_pieces :
    layers.Elements-F Callee Elements ExprKind Values EntryInit FieldInit ItemInit TypedExpr → List Piece
element_pieces (layers.Elements-F.Fields fields) = map (λ (it : FieldInit). evaluate it.value) fields.items
element_pieces (layers.Elements-F.Items items len) = map (λ (it : ItemInit). evaluate it.value) items.items
element_pieces (layers.Elements-F.Entries entries) = flat_map entry_pieces entries.items

abbrev pub making_items : Option TypeTerm → ℕ → List ℕ → Making
making_items (Some (term.Slice elem)) len indices = of_slice len indices
making_items _ len indices = of_array indices

abbrev pub making_of :
    Table → TypeId → layers.Elements-F Callee Elements ExprKind Values EntryInit FieldInit ItemInit TypedExpr → Making
making_of types of (layers.Elements-F.Fields fields) = of_fields (map (λ (it : FieldInit). it.field) fields.items)
making_of types of (layers.Elements-F.Items items len) =
    making_items (under_in types (Some of)) len (map (λ (it : ItemInit). it.index) items.items)
making_of types of (layers.Elements-F.Entries entries) = of_map (length entries.items)

abbrev pub literal_pieces : Table → TypeId → Bool → Elements → List Piece
literal_pieces types of addressed elements =
    element_pieces (out-Elements elements)
    ++ make_literal (making_of types of (out-Elements elements)) of addressed ∷ []

-- ---- "Address operators"

-- the address of a place; where that is `*p`, p is not nil
abbrev pub address_pieces :
    Table → TypedExpr → layers.ExprKind-F Callee Elements ExprKind Values EntryInit FieldInit ItemInit TypedExpr
    → List Piece
address_pieces types place (layers.ExprKind-F.CompositeOf elements) = literal_pieces types place.of true elements
address_pieces types place (layers.ExprKind-F.Deref operand) = evaluate operand.value ∷ check_pointer ∷ []
address_pieces types place _ = address place ∷ []

abbrev pub bound_pieces : Option (Box TypedExpr) → List Piece
bound_pieces None = []
bound_pieces (Some bound) = evaluate bound.value ∷ []

abbrev pub pointed_length : Table → TypeId → Option ℕ
pointed_length types of = length_in (under_in types (base_of (under_in types (Some of))))

-- ---- the pieces of an expression

abbrev pub opened_as :
    Program → Frame → Stored → TypedExpr
    → layers.ExprKind-F Callee Elements ExprKind Values EntryInit FieldInit ItemInit TypedExpr → Opened
opened_as p frame store x (layers.ExprKind-F.ConstOf it) = finds (to (constant_value it))
opened_as p frame store x layers.ExprKind-F.NilOf = finds (of_option (zero_of p x.of))
opened_as p frame store x (layers.ExprKind-F.VarOf v) = finds (value_of p store frame v)
opened_as p frame store x (layers.ExprKind-F.FunctionOf id) = finds (to (closure id []))
opened_as p frame store x (layers.ExprKind-F.LiteralOf id) = finds (literal_value p frame id)
opened_as p frame store x (layers.ExprKind-F.MethodValue receiver which) =
    puts (evaluate receiver.value ∷ bind which ∷ [])
opened_as p frame store x (layers.ExprKind-F.MethodExpr receiver name package_number) =
    finds (to (expression receiver name package_number))
opened_as p frame store x (layers.ExprKind-F.FieldOf operand n) = puts (evaluate operand.value ∷ field n ∷ [])
opened_as p frame store x (layers.ExprKind-F.IndexOf base operand index) =
    puts (evaluate operand.value ∷ evaluate index.value ∷ item ∷ [])
opened_as p frame store x (layers.ExprKind-F.MapIndex operand key comma_ok) =
    puts (evaluate operand.value ∷ evaluate key.value ∷ lookup comma_ok operand.value.of ∷ [])
opened_as p frame store x (layers.ExprKind-F.SliceOf base operand low high max) =
    puts (evaluate operand.value ∷ (bound_pieces low ++ (bound_pieces high ++ (bound_pieces max
    ++ cut (is_some low) (is_some high) (is_some max) (pointed_length p.types operand.value.of) ∷ []))))
opened_as p frame store x (layers.ExprKind-F.Deref operand) = puts (evaluate operand.value ∷ loads ∷ [])
opened_as p frame store x (layers.ExprKind-F.AddressOf operand) =
    puts (address_pieces p.types operand.value (out-ExprKind operand.value.kind))
opened_as p frame store x (layers.ExprKind-F.UnaryOf op operand) =
    puts (evaluate operand.value ∷ unary op (kind_of p.types operand.value.of) ∷ [])
opened_as p frame store x (layers.ExprKind-F.BinaryOf op left right) =
    puts (evaluate left.value ∷ evaluate right.value
    ∷ binary (infix_of.Operate op) (kind_of p.types left.value.of) ∷ [])
opened_as p frame store x (layers.ExprKind-F.CompareOf op left right) =
    puts (evaluate left.value ∷ evaluate right.value
    ∷ binary (infix_of.Compare op) (kind_of p.types left.value.of) ∷ [])
opened_as p frame store x (layers.ExprKind-F.AndAlso left right) =
    puts (evaluate left.value ∷ fork false right.value ∷ [])
opened_as p frame store x (layers.ExprKind-F.OrElse left right) =
    puts (evaluate left.value ∷ fork true right.value ∷ [])
opened_as p frame store x (layers.ExprKind-F.Receive channel comma_ok) =
    puts (evaluate channel.value ∷ receive channel.value.of comma_ok ∷ [])
opened_as p frame store x (layers.ExprKind-F.CallOf callee arguments) =
    puts (call_with at_once (calling_in p (out-Callee callee)) arguments x.at)
opened_as p frame store x (layers.ExprKind-F.BuiltinOf it form arguments spread) =
    built_in_pieces arguments.items (built_in_of p at_once it x.of form arguments.items spread x.at)
opened_as p frame store x (layers.ExprKind-F.ConvertTo operand) =
    puts (evaluate operand.value ∷ convert operand.value.of x.of ∷ [])
opened_as p frame store x (layers.ExprKind-F.ToInterface operand) =
    puts (evaluate operand.value ∷ to_interface operand.value.of ∷ [])
opened_as p frame store x (layers.ExprKind-F.AssertTo operand wanted comma_ok) =
    puts (evaluate operand.value ∷ assert wanted comma_ok ∷ [])
opened_as p frame store x (layers.ExprKind-F.CompositeOf elements) =
    puts (literal_pieces p.types x.of false elements)
opened_as p frame store x (layers.ExprKind-F.PartOf n) = finds (of_option (value_at frame.tuple n))

unfoldable pub opened : Program → Frame → Stored → TypedExpr → Opened
opened p frame store x = opened_as p frame store x (out-ExprKind x.kind)

abbrev pub item_address : TypedExpr → TypedExpr → Option ℕ → Opened
item_address operand index None = finds nowhere
item_address operand index (Some len) = puts (address operand ∷ evaluate index ∷ address_item len ∷ [])

-- the address of a place that is a variable, what a pointer points to, or a part of such
abbrev pub addressed_as :
    Program → Frame → layers.ExprKind-F Callee Elements ExprKind Values EntryInit FieldInit ItemInit TypedExpr → Opened
addressed_as p frame (layers.ExprKind-F.VarOf v) = finds (then_to pointer (of_option (cell_of p frame v)))
addressed_as p frame (layers.ExprKind-F.Deref operand) = puts (evaluate operand.value ∷ [])
addressed_as p frame (layers.ExprKind-F.FieldOf operand n) = puts (address operand.value ∷ address_field n ∷ [])
addressed_as p frame (layers.ExprKind-F.IndexOf index_base.Slice operand index) =
    puts (evaluate operand.value ∷ evaluate index.value ∷ address_element ∷ [])
addressed_as p frame (layers.ExprKind-F.IndexOf index_base.Array operand index) =
    item_address operand.value index.value (array_length p.types operand.value.of)
addressed_as p frame _ = finds nowhere

unfoldable pub addressed : Program → Frame → TypedExpr → Opened
addressed p frame x = addressed_as p frame (out-ExprKind x.kind)

-- the operands of a place that is assigned to: pointers, slices, maps, keys and indices
abbrev pub operands_as :
    layers.ExprKind-F Callee Elements ExprKind Values EntryInit FieldInit ItemInit TypedExpr → List Piece
operands_as (layers.ExprKind-F.Deref operand) = evaluate operand.value ∷ []
operands_as (layers.ExprKind-F.FieldOf operand n) = operands operand.value ∷ []
operands_as (layers.ExprKind-F.IndexOf index_base.Array operand index) =
    operands operand.value ∷ evaluate index.value ∷ []
operands_as (layers.ExprKind-F.IndexOf base operand index) = evaluate operand.value ∷ evaluate index.value ∷ []
operands_as (layers.ExprKind-F.MapIndex operand key comma_ok) = evaluate operand.value ∷ evaluate key.value ∷ []
operands_as _ = []

unfoldable pub operands_of : TypedExpr → List Piece
operands_of x = operands_as (out-ExprKind x.kind)

-- ---- what is made of values

-- an element of an array, a string or a slice
abbrev pub item_of : Stored → Val → Val → Comes Val
item_of store (slice it) index = and_then (load store) (index_address None (slice it) index)
item_of store it index = index_of it index

-- the value of a key in a map of a type
abbrev pub look_up : Program → Answers → Stored → Bool → TypeId → Val → Val → Comes Val
look_up p answers store comma_ok of (map_number id) key =
    where_some (λ other. then_to (λ found. value_or comma_ok found other) (looked_up answers.comparable store id key))
    (option_and_then (zero_of p) (element_type p.types of))
look_up p answers store comma_ok of _ key = nowhere

-- "Conversions": from integers to integers or strings, and between strings and slices, to another value; between other
-- types the value stays
abbrev pub is_text_term : Option TypeTerm → Bool
is_text_term (Some (term.Basic basic.Text)) = true
is_text_term _ = false

abbrev pub changes_value : Option TypeTerm → Option TypeTerm → Bool
changes_value (Some (term.Slice elem)) wanted = is_text_term wanted
changes_value from (Some (term.Slice elem)) = is_text_term from
changes_value from wanted = false

abbrev pub converted_where : Table → Stored → Option IntKind → TypeId → TypeId → Val → Comes Stores
converted_where types store (Some kind) from wanted it =
    conversion types store (under_in types (Some from)) wanted it
converted_where types store None from wanted it =
    if changes_value (under_in types (Some from)) (under_in types (Some wanted))
    then conversion types store (under_in types (Some from)) wanted it
    else to (kept store it)

abbrev pub converted_to : Table → Stored → TypeId → TypeId → Val → Comes Stores
converted_to types store from wanted it = converted_where types store (kind_of types from) from wanted it

-- "Method values": the receiver is copied; a method of a nil interface is no value
abbrev pub bound_value : Method → Val → Comes Val
bound_value (method.Concrete id) receiver = of_result (bound_to (target.Function id) receiver)
bound_value (method.Interface name package_number) nil_interface = faults fault.NilPointer
bound_value (method.Interface name package_number) receiver =
    of_result (bound_to (target.Interface name package_number) receiver)

-- ---- "Composite literals"

-- elements that are not given have zero values
abbrev pub with_elements : List ℕ → List Val → Val → Val
with_elements (n ∷ ns) (it ∷ items) whole = with_elements ns items (written_at it whole (n ∷ []))
with_elements _ _ whole = whole

-- a variable of its own
abbrev pub in_new_cell : Stores → Stores
in_new_cell it = record { value = pointer (new_pointer it.store); store = made it.store it.value }

abbrev pub where_addressed : Bool → Stores → Stores
where_addressed true it = in_new_cell it
where_addressed false it = it

-- a slice of an array of its own
abbrev pub slice_value : Stored → ℕ → Val → Stores
slice_value store len whole =
    record { value = slice (slice_of_new store len len); store = made store whole }

abbrev pub with_entries : Answers → Stored → Val → List Val → Comes Stores
with_entries answers store (map_number id) (key ∷ it ∷ items) =
    and_then (λ store. with_entries answers store (map_number id) items)
    (updated answers.comparable store id key it)
with_entries answers store whole _ = to (kept store whole)

abbrev pub literal_of : Program → Answers → Stored → TypeId → Making → List Val → Comes Stores
literal_of p answers store of (of_fields ns) items =
    then_to (λ zero_value. kept store (with_elements ns items zero_value)) (of_option (zero_of p of))
literal_of p answers store of (of_array ns) items =
    then_to (λ zero_value. kept store (with_elements ns items zero_value)) (of_option (zero_of p of))
literal_of p answers store of (of_slice len ns) items =
    then_to (λ zero_value. slice_value store len (with_elements ns items (array_of (replicate len zero_value))))
    (of_option (option_and_then (zero_of p) (element_type p.types of)))
literal_of p answers store of (of_map count) items =
    with_entries answers (made_map store) (map_number (Some (record { number = length store.maps }))) items

abbrev pub making_count : Making → ℕ
making_count (of_fields ns) = length ns
making_count (of_array ns) = length ns
making_count (of_slice len ns) = length ns
making_count (of_map count) = count * 2
