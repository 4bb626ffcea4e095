-- What slots hold, and what is done with it.
use Rattle.std.proofs.Common.{◌≡◌, ◌∙◌, ◌-◌, ◌<◌, ◌≤◌, ◌^◌, ℕ, ℤ, List, [], ◌∷◌, Option, Some, None, Bool, true, false}
use Rattle.std.proofs.Common.{refl, sym, ap, arith, length, min, reverse}
use Rattle.std.specs.Prelude.{Result, Ok, Err, OnOk, if◌then◌else◌, is_none, option_map}
use Rattle.std.specs.Option.{option_and_then, option_flatten}
use Rattle.std.proofs.lemmas.Bool.{cases_lt}
use Rattle.std.proofs.lemmas.List.{length-drop, length-map, set_past}
use Rattle.std.proofs.lemmas.Option.{slice_get_past}
use mathlib.Core.Logic.{inl, inr}
use Rattle.go_base.specs.declared.ids.CellId.{CellId}
use Rattle.go_store.specs.Cells.{integer_in}
use Rattle.go_store.specs.Stores.{Stored, loaded, put_in}
use Rattle.go_value.specs.Gives.{FaultsIff}
use Rattle.go_value.specs.Values.{Val, function_of, number}
use Rattle.go_value.specs.Values.{pointer, range_of, value_of}
use Rattle.go_value.specs.declared.address.Pointer.{Pointer}
use Rattle.go_value.specs.declared.faults.Fault.{Fault}
use Rattle.go_value.specs.declared.faults.Fault.TheVariants as fault
use Rattle.go_value.specs.declared.faults.ValueError.{ValueError}
use Rattle.go_value.specs.declared.faults.ValueError.TheVariants as errors
use Rattle.go_value.specs.declared.values.FuncValue.{FuncValue}
use Rattle.go_value.specs.declared.values.FuncValue.TheVariants as functions
use Rattle.go_value.specs.declared.values.RangeState.{RangeState}
use Rattle.go_value.specs.declared.values.RangeState.TheVariants as states
use Rattle.go_value.specs.declared.values.Value.{Value}
use Rattle.go_value.specs.declared.values.Value.TheVariants as values
use Rattle.int_steps.specs.Steps.{DoesAs, MeetsNone, State, as_pointer, held, int_assigned, int_loaded}
use Rattle.int_steps.specs.Steps.{integer_of, pointer_of, register_slot, slot_of, with_value}
use Rattle.interp_state.specs.Frames.{frames_from, frames_of}
use Rattle.interp_state.specs.Frames as frames
use Rattle.interp_state.specs.declared.stack.RegStack.{RegStack}
use Rattle.plan_mean.specs.Slots.{slot_in, top_of, with_slot}
use Rattle.ssa_ir.specs.declared.code.Function.{Function}
use Rattle.ssa_ir.specs.declared.operands.Operand.{Operand}
use Rattle.ssa_mean.specs.Comes.{Comes, to, faults, of_option, then_to, where_some}
use Rattle.ssa_mean.specs.Places.{assigned}

-- ---- what is no pointer

of_function : (it : FuncValue) → as_pointer (function_of it) ≡ None
of_function functions.Nil = refl
of_function (functions.Closure function captured) = refl
of_function (functions.Bound target receiver) = refl
of_function (functions.Expression receiver name package_number) = refl

of_range : (it : RangeState) → as_pointer (range_of it) ≡ None
of_range (states.Text bytes next) = refl
of_range (states.Map of left) = refl

pub not_pointer : (it : Value) → ((a : Pointer) → it ≡ values.Pointer a → ⊥) → as_pointer (value_of it) ≡ None
not_pointer (values.Truth a) other = refl
not_pointer (values.Int a) other = refl
not_pointer (values.Text a) other = refl
not_pointer (values.Pointer a) other = absurd (other a refl)
not_pointer (values.Slice a) other = refl
not_pointer (values.Map a) other = refl
not_pointer (values.Chan a) other = refl
not_pointer (values.Func a) other = of_function a.value
not_pointer values.NilInterface other = refl
not_pointer (values.Interface a) other = refl
not_pointer (values.Parts a) other = refl
not_pointer (values.Iter a) other = of_range a.value

-- ---- slots past all numbers

top_within : {A : Type 0} (slots : List A) (base : ℕ) (others : List ℕ)
    → length (top_of (frames_from slots base others)) ≤ length slots
top_within slots base [] = omega arith
top_within slots base (below ∷ others) = omega (arith, length-drop base slots)

-- a frame has fewer slots than there are numbers
pub top_small : (regs : RegStack) → length (top_of (frames_of regs)) < 2 ^ 63
top_small regs =
    let items = regs.slots.items in
    let within = top_within (frames.seen items) regs.base (reverse regs.bases.items) in
    let same = length-map items (option_map value_of) in
    omega (arith, within, same, regs.slots.ok.0, regs.slots.ok.1, regs.slots.small)

pub slot_near : (slots : List (List (Option Val))) (n : ℕ) → length (top_of slots) < 2 ^ 63
    → slot_in slots (min n (2 ^ 64 - 1)) ≡ slot_in slots n
slot_near slots n small =
    elim (cases_lt n (2 ^ 64 - 1)) [
      | inl below ↦ let same : min n (2 ^ 64 - 1) ≡ n = omega arith in ap (slot_in slots) same
      | inr past ↦
          let first : length (top_of slots) ≤ min n (2 ^ 64 - 1) = omega arith in
          let second : length (top_of slots) ≤ n = omega arith in
          ap option_flatten (slice_get_past (top_of slots) (min n (2 ^ 64 - 1)) first
          ∙ sym (slice_get_past (top_of slots) n second))
    ]

pub set_near : (slots : List (List (Option Val))) (n : ℕ) (it : Val) → length (top_of slots) < 2 ^ 63
    → with_slot (min n (2 ^ 64 - 1)) it slots ≡ with_slot n it slots
set_near [] n it small = refl
set_near (top ∷ below) n it small =
    elim (cases_lt n (2 ^ 64 - 1)) [
      | inl within ↦
          let same : min n (2 ^ 64 - 1) ≡ n = omega arith in ap (λ k. with_slot k it (top ∷ below)) same
      | inr past ↦
          let first : length top ≤ min n (2 ^ 64 - 1) = omega arith in
          let second : length top ≤ n = omega arith in
          ap (λ top. top ∷ below) (set_past top (min n (2 ^ 64 - 1)) (Some it) first
          ∙ sym (set_past top n (Some it) second))
    ]

-- what the slot of an operand holds, where it has one
pub held_at : (regs : RegStack) (function : Function) (operand : Operand) (given : Option ℕ) (slot : ℕ)
    (it : Option Val) → given ≡ option_map (λ n. min n (2 ^ 64 - 1)) (slot_of function operand) → given ≡ Some slot
    → it ≡ slot_in (frames_of regs) slot → it ≡ held function (frames_of regs) operand
held_at regs function operand given slot it is some found =
    found ∙ by_slot (slot_of function operand) (sym some ∙ is)
  where
    by_slot : (s : Option ℕ) → Some slot ≡ option_map (λ n. min n (2 ^ 64 - 1)) s
        → slot_in (frames_of regs) slot ≡ option_and_then (slot_in (frames_of regs)) s
    by_slot None h = let no : ⊥ = cc in absurd no
    by_slot (Some n) h =
        let same : slot ≡ min n (2 ^ 64 - 1) = cc in
        ap (slot_in (frames_of regs)) same ∙ slot_near (frames_of regs) n (top_small regs)

pub written : (regs new : RegStack) (function : Function) (register : Option ℕ) (n slot : ℕ) (it : Val)
    → register ≡ Some n → slot ≡ min (register_slot function n) (2 ^ 64 - 1)
    → frames_of new ≡ with_slot slot it (frames_of regs)
    → frames_of new ≡ with_value function register it (frames_of regs)
written regs new function register n slot it some at set =
    set ∙ ap (λ k. with_slot k it (frames_of regs)) at
    ∙ set_near (frames_of regs) (register_slot function n) it (top_small regs)
    ∙ sym (ap (λ register. with_value function register it (frames_of regs)) some)

-- ---- a load

pub nil_loaded : (store : Stored) (at : Pointer) (test : Bool) → test ≡ is_none at.cell → test ≡ true
    → int_loaded store at ≡ faults fault.NilPointer
nil_loaded store at test is holds =
    ap (λ nil. if nil then faults fault.NilPointer else then_to number (of_option (integer_in (loaded store at))))
    (sym is ∙ holds)

pub found_loaded : (store : Stored) (at : Pointer) (test : Bool) (found : Option ℤ) → test ≡ is_none at.cell
    → test ≡ false → found ≡ integer_in (loaded store at) → int_loaded store at ≡ then_to number (of_option found)
found_loaded store at test found is fails there =
    ap (λ nil. if nil then faults fault.NilPointer else then_to number (of_option (integer_in (loaded store at))))
    (sym is ∙ fails)
    ∙ ap (λ found. then_to number (of_option found)) (sym there)

-- ---- a part of the store gets an integer

pub assigned_is : (function : Function) (s : State) (at it : Operand) (place : Pointer) (n : ℤ)
    → integer_of function s.slots it ≡ Some n → pointer_of function s.slots at ≡ Some place
    → int_assigned function s at it ≡ assigned s.store (pointer place) (number n)
assigned_is function s at it place n number_is pointer_is =
    ap (λ p. where_some (λ at. where_some (λ n. assigned s.store (pointer at) (number n))
    (integer_of function s.slots it)) p) pointer_is
    ∙ ap (where_some (λ n. assigned s.store (pointer place) (number n))) number_is

pub put_as : (result : Result Unit ValueError) (wanted : Comes Stored) (old new : Stored) (at : Pointer) (n : ℤ)
    (it : Val) → it ≡ number n → wanted ≡ assigned old (pointer at) (number n)
    → OnOk result (new ≡ put_in it old at)
    → FaultsIff result fault.NilPointer (at.cell ≡ None) → DoesAs (MeetsNone wanted) result wanted new
put_as (Ok _) wanted old new at n it is same put nil =
    same ∙ by_cell at.cell nil ∙ ap (λ it. to (put_in it old at)) (sym is) ∙ ap to (sym put)
  where
    by_cell : (cell : Option CellId) → (cell ≡ None → ⊥)
        → (if is_none cell then faults fault.NilPointer else to (put_in (number n) old at))
        ≡ to (put_in (number n) old at)
    by_cell None h = absurd (h refl)
    by_cell (Some cell) h = refl
put_as (Err (errors.Fault met)) wanted old new at n it is same put nil =
    same ∙ ap (λ (cell : Option CellId). if is_none cell then faults fault.NilPointer
    else to (put_in (number n) old at)) nil.0 ∙ ap faults (sym nil.1)
put_as (Err errors.OutOfMemory) wanted old new at n it is same put nil =
    λ met fails. none at.cell nil met (sym same ∙ fails)
  where
    none : (cell : Option CellId) → (cell ≡ None → ⊥) → (met : Fault)
        → (if is_none cell then faults fault.NilPointer else to (put_in (number n) old at))
        ≡ faults met → ⊥
    none None h met e = h refl
    none (Some cell) h met e = cc
