-- Calls, as a plan has them.
use Rattle.std.specs.Prelude.{ℕ, min, List, Some}
use Rattle.std.specs.Prelude.{◌≡◌}
use Rattle.std.specs.Option.{option_map}
use Rattle.code_plan.specs.Operands.{IsArg, AreArgs}
use Rattle.code_plan.specs.Registers.{Site}
use Rattle.code_plan.specs.declared.steps.BuiltinForm.{BuiltinForm}
use Rattle.code_plan.specs.declared.steps.BuiltinForm.TheVariants as form
use Rattle.code_plan.specs.declared.steps.Callee.{Callee}
use Rattle.code_plan.specs.declared.steps.Callee.TheVariants as callee
use Rattle.code_plan.specs.declared.steps.PlannedCall.{PlannedCall}
use Rattle.go_type.specs.declared.operators.Builtin.TheVariants as builtin
use Rattle.go_value.specs.Values.{value_of}
use Rattle.ssa_ir.specs.declared.operands.Operand.{Operand}
use Rattle.ssa_ir.specs.declared.ops.Call.{Call}
use Rattle.ssa_ir.specs.declared.ops.Call.TheVariants as call
use Rattle.ssa_mean.specs.BuiltIns.{built_in_of}
use Rattle.ssa_mean.specs.State.{BuiltIn, appends_items, appends_slice, appends_text, clears_slice, plain}

-- ---- built-in functions

-- a slice has at most 16,777,216 leaves, so that more leaves of an element are as many
abbrev pub counted_leaves : ℕ → ℕ
counted_leaves leaves = min 16777217 leaves

abbrev pub with_counted : BuiltIn → BuiltIn
with_counted (appends_items leaves) = appends_items (counted_leaves leaves)
with_counted (appends_slice leaves) = appends_slice (counted_leaves leaves)
with_counted (appends_text leaves) = appends_text (counted_leaves leaves)
with_counted it = it

-- the built-in function that a form is
abbrev pub meant_by : BuiltinForm → BuiltIn
meant_by (form.Append leaves) = appends_items leaves
meant_by (form.AppendSlice leaves) = appends_slice leaves
meant_by (form.AppendText leaves) = appends_text leaves
meant_by form.Cap = plain builtin.Cap
meant_by form.ClearMap = plain builtin.Clear
meant_by (form.ClearSlice zero) = clears_slice (value_of zero.value)
meant_by form.Close = plain builtin.Close
meant_by form.Copy = plain builtin.Copy
meant_by form.CopyText = plain builtin.Copy
meant_by form.Delete = plain builtin.Delete
meant_by form.Len = plain builtin.Len
meant_by form.Max = plain builtin.Max
meant_by form.Min = plain builtin.Min
meant_by form.Panic = plain builtin.Panic
meant_by form.Print = plain builtin.Print
meant_by form.Println = plain builtin.Println
meant_by form.Recover = plain builtin.Recover

-- ---- calls

abbrev pub IsCallee : Site → Call → Callee → Type 0
IsCallee s (call.Static id operands) (callee.Function n) = n ≡ id.number
IsCallee s (call.Dynamic value operands) (callee.Value arg) = IsArg s value arg
IsCallee s (call.Invoke receiver name package_number operands) (callee.Method arg method) =
    IsArg s receiver arg × (method ≡ record { name = name; «package» = package_number })
IsCallee s (call.Builtin builtin operands) (callee.Builtin form) =
    option_map with_counted (built_in_of s.code s.function builtin operands) ≡ Some (meant_by form)
IsCallee s _ _ = ⊥

abbrev pub operands_of : Call → List Operand
operands_of (call.Static id operands) = operands
operands_of (call.Dynamic value operands) = operands
operands_of (call.Invoke receiver name package_number operands) = operands
operands_of (call.Builtin builtin operands) = operands

pub record IsCall (s : Site) (call : Call) (planned : PlannedCall) : Type 0 where
  pub callee : IsCallee s call planned.callee
  pub arguments : AreArgs s (operands_of call) planned.arguments.items
