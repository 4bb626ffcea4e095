-- Operands: what a cell holds to which the pointer in a slot points.
use Rattle.std.proofs.Common.{◌≡◌, ◌∙◌, sym, ap, ℕ, List, Option, Some}
use Rattle.std.specs.Option.{option_and_then}
use Rattle.code_plan.specs.declared.steps.Arg.TheVariants as arg
use Rattle.go_store.specs.Stores.{Stored, loaded}
use Rattle.go_value.specs.Values.{Val, value_of}
use Rattle.go_value.specs.declared.address.Pointer.{Pointer}
use Rattle.go_value.specs.declared.values.Value.TheVariants as values
use Rattle.plan_mean.specs.Operands.{in_cell, look_in}
use Rattle.plan_mean.specs.Slots.{slot_in}

pub pointed : (store : Stored) (slots : List (List (Option Val))) (slot : ℕ) (at : Pointer) (it : Val)
    → Some (value_of (values.Pointer at)) ≡ slot_in slots slot → loaded store at ≡ Some it
    → look_in store slots (arg.Cell slot) ≡ Some it
pointed store slots slot at it is there =
    ap (option_and_then (in_cell store)) (sym is) ∙ there
