-- One instruction on integers, as it reads and writes the slots of a frame: those of its parameters, its free variables
-- and its registers, in this order. What it makes of its operands is what the machine makes of them. Go specification,
-- "Operators", "Conversions between numeric types", "Address operators" and "Assignment statements".
use Rattle.std.specs.Prelude.{◌≡◌, ℕ, ◌+◌, List, ℤ, Option, Some, None, Result, Ok, Err, length, slice_get}
use Rattle.std.specs.Prelude.{if◌then◌else◌, nat_lt}
use Rattle.std.specs.Option.{option_and_then}
use Rattle.std.specs.Ordering.{int_cmp}
use Rattle.go_base.specs.declared.ids.TypeId.{TypeId}
use Rattle.go_store.specs.Cells.{integer_in}
use Rattle.go_store.specs.Stores.{Stored, loaded, stored}
use Rattle.go_store.specs.declared.store.Store.{Store}
use Rattle.go_type.specs.Kinds.{kind_of}
use Rattle.go_type.specs.Table.{Table}
use Rattle.go_type.specs.declared.kinds.IntKind.{IntKind}
use Rattle.go_value.specs.Ints.{wrapped}
use Rattle.go_value.specs.Values.{Val, truth, number, pointer}
use Rattle.go_value.specs.declared.address.Pointer.{Pointer}
use Rattle.go_value.specs.declared.faults.Fault.{Fault}
use Rattle.go_value.specs.declared.faults.ValueError.{ValueError}
use Rattle.go_value.specs.declared.faults.ValueError.TheVariants as errors
use Rattle.interp_state.specs.Frames.{frames_of}
use Rattle.interp_state.specs.declared.stack.RegStack.{RegStack}
use Rattle.plan_mean.specs.Slots.{slot_in, with_slot}
use Rattle.ssa_ir.specs.declared.code.Function.{Function}
use Rattle.ssa_ir.specs.declared.operands.ConstValue.{ConstValue}
use Rattle.ssa_ir.specs.declared.operands.ConstValue.TheVariants as constant
use Rattle.ssa_ir.specs.declared.operands.Operand.{Operand}
use Rattle.ssa_ir.specs.declared.operands.Operand.TheVariants as operand
use Rattle.ssa_ir.specs.declared.ops.Infix.{Infix}
use Rattle.ssa_ir.specs.declared.ops.Infix.TheVariants as infix_of
use Rattle.ssa_ir.specs.declared.ops.Op.{Op}
use Rattle.ssa_ir.specs.declared.ops.Op.TheVariants as op
use Rattle.ssa_mean.specs.Arithmetic.{holds, negated_in, on_integers}
use Rattle.ssa_mean.specs.Comes.{Comes, to, faults, nowhere, of_option, then_to, where_some}
use Rattle.ssa_mean.specs.Places.{assigned, followed}

-- the slots of the frames, the top one first, and the variables of the run
pub record State : Type 0 where
  pub slots : List (List (Option Val))
  pub store : Stored

abbrev pub state_of : RegStack → Store → State
state_of regs store = record { slots = frames_of regs; store = stored store }

-- ---- operands of the top frame, which is one of a function

abbrev pub register_slot : Function → ℕ → ℕ
register_slot function n = length function.params + (length function.free + n)

-- what is no parameter, free variable or register has no slot
abbrev pub slot_of : Function → Operand → Option ℕ
slot_of function (operand.Param n) = if nat_lt n (length function.params) then Some n else None
slot_of function (operand.Free n) =
    if nat_lt n (length function.free) then Some (length function.params + n) else None
slot_of function (operand.Register n) = Some (register_slot function n)
slot_of function _ = None

abbrev pub held : Function → List (List (Option Val)) → Operand → Option Val
held function slots it = option_and_then (slot_in slots) (slot_of function it)

abbrev pub constant_integer : ConstValue → Option ℤ
constant_integer (constant.Int it) = Some it
constant_integer _ = None

-- the integer that an operand is
abbrev pub integer_of : Function → List (List (Option Val)) → Operand → Option ℤ
integer_of function slots (operand.Constant it of) = constant_integer it
integer_of function slots it = integer_in (held function slots it)

abbrev pub as_pointer : Val → Option Pointer
as_pointer (pointer at) = Some at
as_pointer _ = None

-- the pointer that an operand is
abbrev pub pointer_of : Function → List (List (Option Val)) → Operand → Option Pointer
pointer_of function slots it = option_and_then as_pointer (held function slots it)

abbrev pub type_of : Function → Operand → Option TypeId
type_of function (operand.Param n) = slice_get function.params n
type_of function (operand.Free n) = slice_get function.free n
type_of function (operand.Register n) = slice_get function.registers n
type_of function (operand.Constant it of) = Some of
type_of function _ = None

abbrev pub kind_at : Table → Function → Operand → Option IntKind
kind_at types function it = option_and_then (kind_of types) (type_of function it)

-- ---- the value that an instruction gives

-- an operator in the kind of the left operand, or a comparison
abbrev pub on_two : Option IntKind → Infix → ℤ → ℤ → Comes Val
on_two kind (infix_of.Operate o) a b = on_integers kind o a b
on_two kind (infix_of.Compare o) a b = to (truth (holds o (int_cmp a b)))

abbrev pub converted : Option IntKind → ℤ → Comes Val
converted (Some kind) it = to (number (wrapped kind it))
converted None it = nowhere

-- the integer that a pointer points to
abbrev pub int_loaded : Stored → Pointer → Comes Val
int_loaded store at = followed at (then_to number (of_option (integer_in (loaded store at))))

abbrev pub int_given : Table → Function → State → Op → Comes Val
int_given types function s (op.Binary o left right) =
    where_some (λ a. where_some (on_two (kind_at types function left) o a) (integer_of function s.slots right))
    (integer_of function s.slots left)
int_given types function s (op.Unary o it) =
    where_some (negated_in (kind_at types function it) o) (integer_of function s.slots it)
int_given types function s (op.Convert of it) =
    where_some (converted (kind_of types of)) (integer_of function s.slots it)
int_given types function s (op.Load at) = where_some (int_loaded s.store) (pointer_of function s.slots at)
int_given types function s _ = nowhere

-- ---- the instruction

-- the store where an integer is assigned
abbrev pub int_assigned : Function → State → Operand → Operand → Comes Stored
int_assigned function s at it =
    where_some (λ at. where_some (λ n. assigned s.store (pointer at) (number n)) (integer_of function s.slots it))
    (pointer_of function s.slots at)

-- the slots where a register gets a value, where there is one
abbrev pub with_value : Function → Option ℕ → Val → List (List (Option Val)) → List (List (Option Val))
with_value function None it slots = slots
with_value function (Some register) it slots = with_slot (register_slot function register) it slots

abbrev pub int_does : Table → Function → Option ℕ → Op → State → Comes State
int_does types function register (op.Store at it) s =
    then_to (λ store. record s { store = store }) (int_assigned function s at it)
int_does types function register o s =
    then_to (λ it. record s { slots = with_value function register it s.slots }) (int_given types function s o)

-- ---- the answer of a call: what an instruction does, or the fault that it meets

abbrev pub DoesAs : {A : Type 0} → Type 0 → Result Unit ValueError → Comes A → A → Type 0
DoesAs Wants (Ok it) wanted new = wanted ≡ to new
DoesAs Wants (Err (errors.Fault fault)) wanted new = wanted ≡ faults fault
DoesAs Wants (Err errors.OutOfMemory) wanted new = Wants

abbrev pub GivesAs : {A B : Type 0} → (A → B) → Result A ValueError → Comes B → Type 0
GivesAs seen (Ok it) wanted = wanted ≡ to (seen it)
GivesAs seen (Err (errors.Fault fault)) wanted = wanted ≡ faults fault
GivesAs seen (Err errors.OutOfMemory) wanted = wanted ≡ nowhere

abbrev pub MeetsNone : {A : Type 0} → Comes A → Type 0
MeetsNone wanted = (fault : Fault) → ¬ (wanted ≡ faults fault)

-- only a store may want for memory, where it meets no fault; all else does so where the machine never comes
abbrev pub MayWant : Op → Comes State → Type 0
MayWant (op.Store at it) wanted = MeetsNone wanted
MayWant _ wanted = wanted ≡ nowhere
