-- What the registers of a function are to its plan. A use of a variable is a load of its cell into a register. Where
-- that register is used further on in the block, and nothing in between writes to a cell, the cell may be read where
-- the register is used; the load itself then makes no step.
use Rattle.std.specs.Prelude.{ℕ, ◌+◌, ◌==◌, Bool, true, false, not, ◌&&◌, List, [], ◌∷◌, Option, Some, None}
use Rattle.std.specs.Prelude.{if◌then◌else◌, length}
use Rattle.code_plan.specs.declared.steps.ConvertForm.TheVariants as convert
use Rattle.code_plan.specs.declared.steps.Step.{Step}
use Rattle.code_plan.specs.declared.steps.Step.TheVariants as act
use Rattle.ssa_ir.specs.declared.code.Code.{Code}
use Rattle.ssa_ir.specs.declared.code.Function.{Function}
use Rattle.ssa_ir.specs.declared.ops.Op.{Op}
use Rattle.ssa_ir.specs.declared.ops.Op.TheVariants as op

-- which registers are loaded late, and which point to whole cells: `New` alone gives them
pub record Marks : Type 0 where
  pub late : ℕ → Bool
  pub cell : ℕ → Bool

-- loads that are still to be made where their registers are used: of each the register, and that of its cell
abbrev pub Pending : Type 0
Pending = List (ℕ × ℕ)

-- where operands are planned
pub record Site : Type 0 where
  pub code : Code
  pub function : Function
  pub marks : Marks
  pub pending : Pending

-- the register of the cell that is read in the place of a register, by its last load
abbrev pub late_from : Option ℕ → Pending → ℕ → Option ℕ
late_from found [] register = found
late_from found (load ∷ loads) register =
    late_from (if load.0 == register then Some load.1 else found) loads register

abbrev pub late_at : Pending → ℕ → Option ℕ
late_at pending register = late_from None pending register

-- ---- slots: those of a frame are its parameters, then its free variables, then its registers

abbrev pub free_slot : Function → ℕ → ℕ
free_slot function n = length function.params + n

abbrev pub register_slot : Function → ℕ → ℕ
register_slot function n = length function.params + (length function.free + n)

-- ---- what may be given, and what is still pending

-- a register that is loaded late is given by no other instruction, and one that points to a cell by `New` alone
abbrev pub may_give : Marks → Op → Option ℕ → Bool
may_give marks op None = true
may_give marks (op.New of) (Some register) = not (marks.late register)
may_give marks op (Some register) = not (marks.late register) && not (marks.cell register)

-- an instruction at which a goroutine may wait reads all its operands before
abbrev pub before : Op → Pending → Pending
before (op.Send channel value) pending = []
before (op.Receive channel comma_ok) pending = []
before (op.Select blocking cases) pending = []
before op pending = pending

-- whether a step may write to a cell, make one, or let other code do so
abbrev pub may_write : Step → Bool
may_write (act.New zero slot) = true
may_write (act.Store at value) = true
may_write (act.Update table key value) = true
may_write (act.Convert convert.TextToBytes it slot) = true
may_write (act.Convert convert.TextToRunes it slot) = true
may_write (act.MakeMap slot) = true
may_write (act.MakeSlice zero leaves len cap slot) = true
may_write (act.Call call slot) = true
may_write (act.Go call) = true
may_write (act.Defer call) = true
may_write act.RunDefers = true
may_write (act.Send channel value) = true
may_write (act.Receive channel zero comma_ok slot) = true
may_write (act.Select blocking cases slot) = true
may_write (act.NextText range slot) = true
may_write (act.NextMap range key value slot) = true
may_write (act.Jump block) = true
may_write (act.If test then_to else_to) = true
may_write (act.Return values) = true
may_write (act.Panic value) = true
may_write _ = false

abbrev pub behind : Step → Pending → Pending
behind step pending = if may_write step then [] else pending
