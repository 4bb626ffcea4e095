-- Interfaces, function values, and what makes maps, channels and slices. Go specification, "Type assertions", "Method
-- values", "Function literals" and "Making slices, maps and channels".
use Rattle.std.specs.Prelude.{ℕ, ◌==◌, ◌||◌, Bool, true, false, List, [], ◌∷◌, ℤ, pos, int_lt, Option, Some, None}
use Rattle.std.specs.Prelude.{length, slice_get, unsigned_abs, if◌then◌else◌}
use Rattle.std.specs.Option.{option_map}
use Rattle.go_base.specs.declared.ids.FuncId.{FuncId}
use Rattle.go_base.specs.declared.ids.TypeId.{TypeId}
use Rattle.go_sched.specs.Goroutines.{State, with_new_chan}
use Rattle.go_store.specs.Slices.{most_elements, make_fault, with_zeros, slice_of_new}
use Rattle.go_store.specs.Stores.{Stored}
use Rattle.go_type.specs.Selector.{is_interface}
use Rattle.go_type.specs.Sizes.{leaves_to}
use Rattle.go_type.specs.Table.{Table}
use Rattle.go_value.specs.Interfaces.{is_interface_type, bound_to, dynamic_type}
use Rattle.go_value.specs.Values.{Val, none, part, truth, slice, pointer, chan_number, nil_interface, dynamic, closure}
use Rattle.go_value.specs.Values.{parts}
use Rattle.go_value.specs.declared.address.Pointer.{Pointer}
use Rattle.go_value.specs.declared.faults.Fault.{Fault}
use Rattle.go_value.specs.declared.faults.Fault.TheVariants as fault
use Rattle.go_value.specs.declared.values.BoundTarget.TheVariants as target
use Rattle.ssa_ir.specs.declared.code.Function.{Function}
use Rattle.ssa_ir.specs.declared.code.FunctionKind.{FunctionKind}
use Rattle.ssa_ir.specs.declared.code.FunctionKind.TheVariants as kind
use Rattle.ssa_mean.specs.Answers.{Answers}
use Rattle.ssa_mean.specs.Comes.{Comes, to, faults, nowhere, of_result, where_some}
use Rattle.ssa_mean.specs.Conversions.{Stores}
use Rattle.ssa_mean.specs.Zeros.{most_nesting}

-- ---- tuples

abbrev pub pair_of : Val → Val → Val
pair_of first second = parts (part first false (part second false none))

-- a value and whether there was one, where that is asked for
abbrev pub with_ok : Bool → Val → Bool → Val
with_ok false it there = it
with_ok true it there = pair_of it (truth there)

-- the value that there is, and else another, where it is asked whether there was one
abbrev pub value_or : Bool → Option Val → Val → Val
value_or comma_ok (Some it) other = with_ok comma_ok it true
value_or comma_ok None other = with_ok comma_ok other false

-- ---- "Type assertions"

-- a value in an interface as one of a type: that of this very type, or itself where the type is an interface that is
-- implemented
abbrev pub held_by : Table → Answers → TypeId → Val → TypeId → Option Val
held_by types answers of it wanted =
    if of.number == wanted.number then Some it
    else (if is_interface_type types wanted
    then (if answers.implements of wanted then Some (dynamic of it) else None) else None)

abbrev pub held_as : Table → Answers → Val → TypeId → Option Val
held_as types answers (dynamic of it) wanted = held_by types answers of it wanted
held_as types answers _ wanted = None

abbrev pub assertion : Bool → Val → TypeId → Option Val → Val → Comes Val
assertion comma_ok it wanted (Some held) other = to (with_ok comma_ok held true)
assertion true it wanted None other = to (with_ok true other false)
assertion false it wanted None other = faults (fault.Assertion (dynamic_type it) wanted)

-- ---- "Function literals" and "Method values"

abbrev pub pointers_of : List Val → Option (List Pointer)
pointers_of [] = Some []
pointers_of (pointer at ∷ others) = option_map (λ rest. at ∷ rest) (pointers_of others)
pointers_of (_ ∷ others) = None

abbrev pub is_nil_of : Bool → Val → Bool
is_nil_of true nil_interface = true
is_nil_of _ _ = false

-- a method of a nil interface is no value
abbrev pub bound_method : FuncId → Bool → List Val → Comes Val
bound_method id is_interface (receiver ∷ []) =
    if is_nil_of is_interface receiver then faults fault.NilPointer
    else of_result (bound_to (target.Function id) receiver)
bound_method id is_interface _ = nowhere

-- whether the receiver that a wrapper binds is of an interface type
abbrev pub binds_interface : Table → Function → Bool
binds_interface types function = binds (slice_get function.free 0)
  where
    binds : Option TypeId → Bool
    binds None = false
    binds (Some of) = is_interface_type types of

-- a function with the values of its free variables: a method with its receiver where it is a wrapper, and else a
-- closure over pointers
abbrev pub closed_over : Table → FuncId → Function → FunctionKind → List Val → Comes Val
closed_over types id function kind.Wrapper captured = bound_method id (binds_interface types function) captured
closed_over types id function _ captured =
    where_some (λ pointers. to (closure id pointers)) (pointers_of captured)

-- ---- "Making slices, maps and channels"

abbrev pub leaves_of : Table → TypeId → ℕ
leaves_of types of = leaves_to most_nesting types of

-- sizes that a channel of elements of so many leaves cannot have
abbrev pub is_no_size : ℕ → ℤ → Bool
is_no_size leaves size = int_lt size (pos 0) || int_lt (pos (most_elements leaves)) size

-- a channel, and the channels after it
pub record Channels : Type 0 where
  pub value : Val
  pub sched : State

abbrev pub made_chan : ℕ → State → ℤ → Comes Channels
made_chan leaves sched size =
    if is_no_size leaves size then faults fault.MakeChan
    else to (record {
      value = chan_number (Some (record { number = length sched.channels }));
      sched = with_new_chan (unsigned_abs size) sched;
    })

abbrev pub made_where : Option Fault → Stores → Comes Stores
made_where (Some fault) made = faults fault
made_where None made = to made

abbrev pub made_slice : ℕ → Stored → Val → ℤ → ℤ → Comes Stores
made_slice leaves store zero_value len cap =
    made_where (make_fault leaves len cap)
    (record {
      value = slice (slice_of_new store (unsigned_abs len) (unsigned_abs cap));
      store = with_zeros store zero_value cap;
    })
