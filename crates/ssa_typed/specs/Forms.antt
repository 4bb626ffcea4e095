-- Which types the operands and the register of an instruction need.
use Rattle.std.specs.Prelude.{ℕ, ◌==◌, nat_le, Bool, true, false, not, ◌&&◌, ◌||◌, ◌⊎◌, List, [], ◌∷◌, length}
use Rattle.std.specs.Prelude.{if◌then◌else◌, Option, Some, None, is_some, IsTrue, slice_get}
use Rattle.std.specs.Cmp.Lexicographic.{pointwise}
use Rattle.std.specs.List.{list_all}
use Rattle.go_base.specs.declared.ids.TypeId.{TypeId}
use Rattle.go_type.specs.Assignable.{underlying_term_of, Implements}
use Rattle.go_type.specs.Comparable.{Comparable}
use Rattle.go_type.specs.Kinds.{kind_of}
use Rattle.go_type.specs.Same.{same_id}
use Rattle.go_type.specs.Table.{Table, term_at, basic_id, id_of}
use Rattle.go_type.specs.declared.operators.BinaryOp.{BinaryOp}
use Rattle.go_type.specs.declared.operators.BinaryOp.TheVariants as binary
use Rattle.go_type.specs.declared.operators.CompareOp.{CompareOp}
use Rattle.go_type.specs.declared.operators.CompareOp.TheVariants as compare
use Rattle.go_type.specs.declared.operators.UnaryOp.{UnaryOp}
use Rattle.go_type.specs.declared.operators.UnaryOp.TheVariants as unary
use Rattle.go_type.specs.declared.term.Basic.TheVariants as basic
use Rattle.go_type.specs.declared.term.TypeTerm.{TypeTerm}
use Rattle.go_type.specs.declared.term.TypeTerm.TheVariants.{Basic as Plain, Pointer, Slice, Array, Map, Struct, Iter}
use Rattle.ssa_ir.specs.declared.code.Code.{Code}
use Rattle.ssa_ir.specs.declared.code.Function.{Function}
use Rattle.ssa_ir.specs.declared.operands.ConstValue.TheVariants as value
use Rattle.ssa_ir.specs.declared.operands.Operand.{Operand}
use Rattle.ssa_ir.specs.declared.operands.Operand.TheVariants as operand
use Rattle.ssa_ir.specs.declared.ops.Infix.{Infix}
use Rattle.ssa_ir.specs.declared.ops.Infix.TheVariants.{Operate, Compare}
use Rattle.ssa_ir.specs.declared.ops.Op.{Op}
use Rattle.ssa_ir.specs.declared.ops.Op.TheVariants as op
use Rattle.ssa_ir.specs.declared.ops.SelectCase.{SelectCase}
use Rattle.ssa_ir.specs.declared.ops.SelectCase.TheVariants as case_
use Rattle.ssa_typed.specs.Calls.{fits_call, fits_deferred}
use Rattle.ssa_typed.specs.Conversions.{converts, changes}
use Rattle.ssa_typed.specs.Operands.{function_at, is_function_type, known, held_type, shape, is_operand, is_where}
use Rattle.ssa_typed.specs.Operands.{is_integer_operand, is_truth_operand, is_any_operand, pointee}
use Rattle.type_shapes.specs.Shapes.{is_id, is_map, is_chan, is_slice, is_text, is_truth, is_interface, is_any}
use Rattle.type_shapes.specs.Shapes.{is_state, is_pointer_to, is_slice_of, parts_of, is_with_ok, array_elem, field_of}
use Rattle.type_shapes.specs.Shapes.{type_of_field, sent_elem, received_elem}
use Rattle.ssa_typed.specs.declared.known.Known.{Known}
use Rattle.ssa_typed.specs.declared.known.Known.TheVariants as known_as

-- ---- types where there are any

abbrev pub is_pointer_where : Option TypeTerm → Option TypeId → Bool
is_pointer_where term None = false
is_pointer_where term (Some base) = is_pointer_to term base

abbrev pub is_slice_where : Option TypeTerm → Option TypeId → Bool
is_slice_where term None = false
is_slice_where term (Some elem) = is_slice_of term elem

abbrev pub array_elem_at : Table → Option TypeId → Option TypeId
array_elem_at types None = None
array_elem_at types (Some base) = array_elem (underlying_term_of types base)

-- the register has the type of a result, or with a second boolean result the tuple of both
abbrev pub gives : Table → TypeId → TypeId → Bool → Bool
gives types register of true = is_with_ok of (parts_of (term_at types register))
gives types register of false = same_id register of

abbrev pub gives_received : Table → TypeId → Bool → Option TypeId → Bool
gives_received types register comma_ok None = false
gives_received types register comma_ok (Some elem) = gives types register elem comma_ok

-- ---- operators

abbrev pub has_unary : Table → UnaryOp → TypeId → Bool
has_unary types unary.Not of = is_truth (underlying_term_of types of)
has_unary types _ of = is_some (kind_of types of)

abbrev pub is_shift : BinaryOp → Bool
is_shift binary.ShiftLeft = true
is_shift binary.ShiftRight = true
is_shift _ = false

-- an operator takes integers, and `+` strings too
abbrev pub is_taken : Table → BinaryOp → TypeId → Bool
is_taken types binary.Add of = is_some (kind_of types of) || is_text (underlying_term_of types of)
is_taken types _ of = is_some (kind_of types of)

abbrev pub is_equality : CompareOp → Bool
is_equality compare.Equal = true
is_equality compare.NotEqual = true
is_equality _ = false

abbrev pub is_nil : Operand → Bool
is_nil (operand.Constant value.Nil of) = true
is_nil _ = false

-- the type that two operands have, where one of them is neither a function nor an address
abbrev pub common_type : Option Known → Option Known → Option TypeId
common_type (Some (known_as.Held of)) (Some other) = Some of
common_type (Some other) (Some (known_as.Held of)) = Some of
common_type _ _ = None

abbrev pub is_same_address : Option Known → Option Known → Bool
is_same_address (Some (known_as.Address a)) (Some (known_as.Address b)) = same_id a b
is_same_address _ _ = false

-- values of one type are compared: by `==` and `!=` those of comparable types, and any with `nil`; else integers and
-- strings
abbrev pub ComparesAs : Table → CompareOp → Operand → Operand → TypeId → Type 0
ComparesAs types compare.Equal left right of = IsTrue (is_nil left || is_nil right) ⊎ Comparable types of
ComparesAs types compare.NotEqual left right of = IsTrue (is_nil left || is_nil right) ⊎ Comparable types of
ComparesAs types _ left right of = IsTrue (is_some (kind_of types of) || is_text (underlying_term_of types of))

module _ (c : Code) (f : Function) where
  abbrev pub operates : BinaryOp → Operand → Operand → TypeId → Bool
  operates operator left right of =
      if is_shift operator then is_operand c f left of && (is_some (kind_of c.types of) && is_integer_operand c f right)
      else is_taken c.types operator of && (is_operand c f left of && is_operand c f right of)

  abbrev pub ComparesOf : CompareOp → Operand → Operand → Option TypeId → Type 0
  ComparesOf operator left right None =
      IsTrue (is_equality operator && is_same_address (known c f left) (known c f right))
  ComparesOf operator left right (Some of) =
      IsTrue (is_operand c f left of && is_operand c f right of) × ComparesAs c.types operator left right of

  abbrev pub FitsBinary : Infix → Operand → Operand → TypeId → Type 0
  FitsBinary (Operate operator) left right of = IsTrue (operates operator left right of)
  FitsBinary (Compare operator) left right of =
      IsTrue (is_truth (underlying_term_of c.types of))
      × ComparesOf operator left right (common_type (known c f left) (known c f right))

-- ---- fields and elements

abbrev pub has_field : Option TypeTerm → ℕ → TypeId → Bool
has_field (Some (Struct fields)) field of = is_id (type_of_field (slice_get fields field)) of
has_field _ field of = false

abbrev pub has_field_address : Table → Option TypeId → ℕ → TypeId → Bool
has_field_address types None field of = false
has_field_address types (Some base) field of =
    is_pointer_where (term_at types of) (field_of field (underlying_term_of types base))

abbrev pub has_elem : Option TypeTerm → TypeId → Bool
has_elem (Some (Array len elem)) of = same_id elem of
has_elem (Some (Plain basic.Text)) of = same_id of (basic_id basic.Uint8)
has_elem _ of = false

-- the elements of a slice, or of an array that is pointed to
abbrev pub elem_below : Table → Option TypeTerm → Option TypeId → Option TypeId
elem_below types (Some (Slice elem)) base = Some elem
elem_below types _ base = array_elem_at types base

module _ (c : Code) (f : Function) where
  abbrev pub looks_up : Option TypeTerm → Operand → Bool → TypeId → Bool
  looks_up (Some (Map by elem)) key comma_ok of = is_operand c f key by && gives c.types of elem comma_ok
  looks_up _ key comma_ok of = false

  abbrev pub updates : Option TypeTerm → Operand → Operand → Bool
  updates (Some (Map by elem)) key item = is_operand c f key by && is_operand c f item elem
  updates _ key item = false

  abbrev pub is_bound : Option Operand → Bool
  is_bound None = true
  is_bound (Some bound) = is_integer_operand c f bound

  abbrev pub are_bounds : Option Operand → Option Operand → Option Operand → Bool
  are_bounds low high max = is_bound low && (is_bound high && is_bound max)

  -- a slice, a string without a capacity, or an array that is pointed to
  abbrev pub slices : Option TypeTerm → Operand → Bool → TypeId → Bool
  slices (Some (Slice elem)) sliced has_max of = is_operand c f sliced of
  slices (Some (Plain basic.Text)) sliced has_max of = not has_max && is_operand c f sliced of
  slices _ sliced has_max of = is_slice_where (term_at c.types of) (array_elem_at c.types (pointee c f sliced))

-- ---- closures

-- a closure captures something, and has the type of its function without what is captured
abbrev pub closes : Code → Function → Option Function → List Operand → TypeId → Bool
closes c f None captured of = false
closes c f (Some function) captured of =
    not (length captured == 0)
    && (pointwise (is_operand c f) captured function.free && is_function_type (term_at c.types of) (Some function))

-- ---- interfaces

-- a type that is held has the methods of an interface
abbrev pub ImplementsWhere : Table → Option TypeId → TypeId → Type 0
ImplementsWhere types None to = ⊥
ImplementsWhere types (Some of) to = Implements types of to

-- what is put into an interface is none and has its methods; a function has none, and an address those of the type of
-- pointers
abbrev pub Boxes : Table → Option Known → TypeId → Type 0
Boxes types None to = ⊥
Boxes types (Some (known_as.Held of)) to =
    IsTrue (not (is_interface (underlying_term_of types of)) && not (is_state (underlying_term_of types of)))
    × Implements types of to
Boxes types (Some (known_as.Function id)) to = IsTrue (is_any (underlying_term_of types to))
Boxes types (Some (known_as.Address base)) to =
    IsTrue (is_any (underlying_term_of types to)) ⊎ ImplementsWhere types (id_of (Pointer base) types) to

-- an interface becomes one of no more methods
abbrev pub Widens : Table → Option TypeId → TypeId → Type 0
Widens types None to = ⊥
Widens types (Some of) to = IsTrue (is_interface (underlying_term_of types of)) × Implements types of to

-- an interface is asserted to be another, or to hold what has its methods
abbrev pub Asserts : Table → Option TypeId → TypeId → Type 0
Asserts types None to = ⊥
Asserts types (Some of) to =
    IsTrue (is_interface (underlying_term_of types of))
    × (IsTrue (is_interface (underlying_term_of types to)) ⊎ Implements types to of)

-- ---- select

module _ (c : Code) (f : Function) where
  abbrev pub receives_at : Operand → Option TypeId → Bool
  receives_at channel None = false
  receives_at channel (Some of) = is_id (received_elem (shape c f channel)) of

  -- each send has a channel and a value of its elements, and each receive a part of the tuple
  abbrev pub takes_cases : List SelectCase → List TypeId → Bool
  takes_cases [] [] = true
  takes_cases [] (of ∷ rest) = false
  takes_cases (case_.Send channel item ∷ cases) received =
      is_where c f item (sent_elem (shape c f channel)) && takes_cases cases received
  takes_cases (case_.Receive channel ∷ cases) [] = false
  takes_cases (case_.Receive channel ∷ cases) (of ∷ rest) =
      is_id (received_elem (shape c f channel)) of && takes_cases cases rest

  -- the index, whether a value came, and the values received
  abbrev pub selects : List SelectCase → Option (List TypeId) → Bool
  selects cases (Some (index ∷ ok ∷ rest)) =
      same_id index (basic_id basic.Int)
      && (same_id ok (basic_id basic.Bool) && (nat_le (length cases) 4294967295 && takes_cases cases rest))
  selects cases _ = false

-- ---- ranges

-- strings and maps have a state of a range
abbrev pub is_ranged : Option TypeTerm → Bool
is_ranged (Some (Plain basic.Text)) = true
is_ranged (Some (Map key elem)) = true
is_ranged _ = false

abbrev pub is_iter_of : Code → Function → Option TypeTerm → Operand → Bool
is_iter_of c f (Some (Iter over)) ranged = is_operand c f ranged over
is_iter_of c f _ ranged = false

-- the key and the value of an entry, or the place of a character and the character
abbrev pub has_items : Option TypeTerm → TypeId → TypeId → Bool
has_items (Some (Map key elem)) first second = same_id key first && same_id elem second
has_items (Some (Plain basic.Text)) first second =
    same_id first (basic_id basic.Int) && same_id second (basic_id basic.Int32)
has_items _ first second = false

-- whether there is more, the key, and the value
abbrev pub has_steps : Option TypeTerm → Option (List TypeId) → Bool
has_steps over (Some (more ∷ first ∷ second ∷ [])) = same_id more (basic_id basic.Bool) && has_items over first second
has_steps over _ = false

abbrev pub steps_over : Table → Option TypeTerm → TypeId → Bool
steps_over types (Some (Iter over)) of = has_steps (underlying_term_of types over) (parts_of (term_at types of))
steps_over types _ of = false

abbrev pub steps : Table → Option TypeId → TypeId → Bool
steps types None of = false
steps types (Some id) of = steps_over types (term_at types id) of

abbrev pub has_part : Option (List TypeId) → ℕ → TypeId → Bool
has_part None part of = false
has_part (Some parts) part of = is_id (slice_get parts part) of

abbrev pub extracts : Table → Option TypeId → ℕ → TypeId → Bool
extracts types None part of = false
extracts types (Some tuple) part of = has_part (parts_of (term_at types tuple)) part of

-- ---- instructions

module _ (c : Code) (f : Function) where
  -- an instruction that gives no register
  unfoldable pub fits_alone : Op → Bool
  fits_alone (op.Store at item) = is_where c f item (pointee c f at)
  fits_alone (op.Update map key item) = updates c f (shape c f map) key item
  fits_alone (op.Call call) = fits_call c f call None
  fits_alone (op.Go call) = fits_deferred c f call
  fits_alone (op.Defer call) = fits_deferred c f call
  fits_alone op.RunDefers = true
  fits_alone (op.Send channel item) = is_where c f item (sent_elem (shape c f channel))
  fits_alone op.Tick = true
  fits_alone (op.Jump to) = true
  fits_alone (op.If test then_to else_to) = is_truth_operand c f test
  fits_alone (op.Return results) = pointwise (is_operand c f) results f.results
  fits_alone (op.Panic item) = is_any_operand c f item
  fits_alone _ = false

  -- an instruction that gives a register of a type; those that compare, and those that ask for methods, stand below
  unfoldable pub fits_giving : Op → TypeId → Bool
  fits_giving (op.New base) of = is_pointer_to (term_at c.types of) base
  fits_giving (op.Phi edges) of = list_all (λ edge. is_operand c f edge.value of) edges
  fits_giving (op.Unary operator operand) of = is_operand c f operand of && has_unary c.types operator of
  fits_giving (op.Load at) of = is_id (pointee c f at) of
  fits_giving (op.Field operand field) of = has_field (shape c f operand) field of
  fits_giving (op.FieldAddress operand field) of = has_field_address c.types (pointee c f operand) field of
  fits_giving (op.Index operand index) of = has_elem (shape c f operand) of && is_integer_operand c f index
  fits_giving (op.IndexAddress operand index) of =
      is_integer_operand c f index
      && is_pointer_where (term_at c.types of) (elem_below c.types (shape c f operand) (pointee c f operand))
  fits_giving (op.Lookup map key comma_ok) of = looks_up c f (shape c f map) key comma_ok of
  fits_giving (op.Slice operand low high max) of =
      are_bounds c f low high max && slices c f (shape c f operand) operand (is_some max) of
  fits_giving (op.Convert to operand) of = same_id to of && converts c.types (held_type (known c f operand)) of
  fits_giving (op.ChangeType to operand) of = same_id to of && changes c (known c f operand) of
  fits_giving (op.MakeClosure function captured) of = closes c f (function_at c function) captured of
  fits_giving (op.MakeMap made) of = same_id made of && is_map (underlying_term_of c.types of)
  fits_giving (op.MakeChan made size) of =
      same_id made of && (is_chan (underlying_term_of c.types of) && is_integer_operand c f size)
  fits_giving (op.MakeSlice made len cap) of =
      same_id made of
      && (is_slice (underlying_term_of c.types of) && (is_integer_operand c f len && is_integer_operand c f cap))
  fits_giving (op.Call call) of = fits_call c f call (Some of)
  fits_giving (op.Receive channel comma_ok) of = gives_received c.types of comma_ok (received_elem (shape c f channel))
  fits_giving (op.Select blocking cases) of = selects c f cases (parts_of (term_at c.types of))
  fits_giving (op.Range operand) of = is_ranged (shape c f operand) && is_iter_of c f (term_at c.types of) operand
  fits_giving (op.Next operand) of = steps c.types (held_type (known c f operand)) of
  fits_giving (op.Extract operand part) of = extracts c.types (held_type (known c f operand)) part of
  fits_giving _ of = false

  -- an instruction that gives a register of a type
  unfoldable pub FitsGiving : Op → TypeId → Type 0
  FitsGiving (op.Binary operator left right) of = FitsBinary c f operator left right of
  FitsGiving (op.MakeInterface to operand) of = IsTrue (same_id to of) × Boxes c.types (known c f operand) of
  FitsGiving (op.ChangeInterface to operand) of =
      IsTrue (same_id to of) × Widens c.types (held_type (known c f operand)) of
  FitsGiving (op.TypeAssert operand to comma_ok) of =
      Asserts c.types (held_type (known c f operand)) to × IsTrue (gives c.types of to comma_ok)
  FitsGiving other of = IsTrue (fits_giving other of)

  -- an instruction, with the type of the register that it gives
  abbrev pub FitsOp : Op → Option TypeId → Type 0
  FitsOp instr None = IsTrue (fits_alone instr)
  FitsOp instr (Some of) = FitsGiving instr of
