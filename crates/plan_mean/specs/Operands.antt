-- Operands of planned code: their values.
use Rattle.std.specs.Prelude.{List, [], ◌∷◌, ℤ, Option, Some, None}
use Rattle.std.specs.Option.{option_and_then}
use Rattle.code_plan.specs.declared.steps.Arg.{Arg}
use Rattle.code_plan.specs.declared.steps.Arg.TheVariants as arg
use Rattle.go_store.specs.Stores.{Stored, loaded}
use Rattle.go_value.specs.Values.{Val, number, pointer, value_of}
use Rattle.plan_mean.specs.Slots.{slot_in}
use Rattle.plan_mean.specs.State.{Machine}
use Rattle.ssa_mean.specs.Comes.{Comes, nowhere, where_some}
use Rattle.ssa_mean.specs.Operands.{with_value}

-- what the cell holds to which a pointer points
abbrev pub in_cell : Stored → Val → Option Val
in_cell store (pointer at) = loaded store at
in_cell store _ = None

-- the value of an operand over what the cells hold and the slots of the frames
abbrev pub look_in : Stored → List (List (Option Val)) → Arg → Option Val
look_in store slots (arg.Slot slot) = slot_in slots slot
look_in store slots (arg.Cell slot) = option_and_then (in_cell store) (slot_in slots slot)
look_in store slots (arg.Held it) = Some (value_of it.value)

abbrev pub look : Machine → Arg → Option Val
look m it = look_in m.store m.current.slots it

-- the values of operands, where all have one
abbrev pub look_at_all : Machine → List Arg → Option (List Val)
look_at_all m [] = Some []
look_at_all m (first ∷ others) = with_value (look m first) (look_at_all m others)

-- ---- what is made of the values of operands

abbrev pub with_one : {A : Type 0} → Machine → Arg → (Val → Comes A) → Comes A
with_one m it next = where_some next (look m it)

abbrev pub with_two : {A : Type 0} → Machine → Arg → Arg → (Val → Val → Comes A) → Comes A
with_two m first second next = with_one m first (λ a. with_one m second (λ b. next a b))

abbrev pub on_integer : {A : Type 0} → (ℤ → Comes A) → Val → Comes A
on_integer next (number n) = next n
on_integer next _ = nowhere

abbrev pub with_integer : {A : Type 0} → Machine → Arg → (ℤ → Comes A) → Comes A
with_integer m it next = with_one m it (on_integer next)

-- a place of a slice expression, where it is not left out
abbrev pub with_bound : {A : Type 0} → Machine → Option Arg → (Option ℤ → Comes A) → Comes A
with_bound m None next = next None
with_bound m (Some it) next = with_integer m it (λ n. next (Some n))
