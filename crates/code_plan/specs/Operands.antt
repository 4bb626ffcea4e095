-- Operands of instructions, as a plan has them.
use Rattle.std.specs.Prelude.{ℕ, ◌<◌, false, true, List, Option, Some, None, length}
use Rattle.std.specs.Prelude.{◌≡◌, []}
use Rattle.std.specs.List.{AllZip}
use Rattle.std.specs.Option.{option_map}
use Rattle.code_plan.specs.Registers.{Site, late_at, free_slot, register_slot}
use Rattle.code_plan.specs.declared.steps.Arg.{Arg}
use Rattle.code_plan.specs.declared.steps.Arg.TheVariants as arg
use Rattle.code_plan.specs.declared.steps.Bounds.{Bounds}
use Rattle.go_base.specs.declared.ids.TypeId.{TypeId}
use Rattle.go_value.specs.Values.{pointer, closure, value_of}
use Rattle.go_value.specs.declared.values.Value.{Value}
use Rattle.ssa_ir.specs.declared.operands.Operand.{Operand}
use Rattle.ssa_ir.specs.declared.operands.Operand.TheVariants as operand
use Rattle.ssa_mean.specs.Operands.{constant_value, variable_cell}
use Rattle.ssa_mean.specs.Zeros.{zero_where}

-- a parameter, a free variable or a register is its slot, but one that is loaded late is the cell it is loaded from;
-- all others are values
abbrev pub IsArg : Site → Operand → Arg → Type 0
IsArg s (operand.Param n) (arg.Slot slot) = (slot ≡ n) × (n < length s.function.params)
IsArg s (operand.Free n) (arg.Slot slot) = (slot ≡ free_slot s.function n) × (n < length s.function.free)
IsArg s (operand.Register n) (arg.Slot slot) =
    (slot ≡ register_slot s.function n) × (s.marks.late n ≡ false)
IsArg s (operand.Register n) (arg.Cell slot) =
    (option_map (register_slot s.function) (late_at s.pending n) ≡ Some slot) × (s.marks.late n ≡ true)
IsArg s (operand.Function id) (arg.Held it) = value_of it.value ≡ closure id []
IsArg s (operand.Variable variable) (arg.Held it) = value_of it.value ≡ pointer (variable_cell variable)
IsArg s (operand.Constant it of) (arg.Held held) = constant_value s.code it of ≡ Some (value_of held.value)
IsArg s _ _ = ⊥

abbrev pub AreArgs : Site → List Operand → List Arg → Type 0
AreArgs s operands args = AllZip (IsArg s) operands args

-- an operand that may be left out
abbrev pub IsArgWhere : Site → Option Operand → Option Arg → Type 0
IsArgWhere s None None = Unit {0}
IsArgWhere s (Some it) (Some arg) = IsArg s it arg
IsArgWhere s _ _ = ⊥

abbrev pub AreBounds : Site → Option Operand → Option Operand → Option Operand → Bounds → Type 0
AreBounds s low high max bounds =
    IsArgWhere s low bounds.low × IsArgWhere s high bounds.high × IsArgWhere s max bounds.max

-- the slot of the register that an instruction gives
abbrev pub IsTo : Site → Option ℕ → ℕ → Type 0
IsTo s register slot = option_map (register_slot s.function) register ≡ Some slot

-- the zero value of a type, as it lies in memory
abbrev pub IsZero : Site → Option TypeId → Value → Type 0
IsZero s of it = zero_where s.code of ≡ Some (value_of it)
