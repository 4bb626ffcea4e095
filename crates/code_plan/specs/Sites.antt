-- Where operands are planned, as the definition of a plan has it.
use Rattle.std.specs.Prelude.{◌≡◌, ℕ, ◌<◌, Bool, true, false, List, [], ◌∷◌, ◌++◌, Option, Some, length, map}
use Rattle.std.specs.Prelude.{slice_get, unwrap_or}
use Rattle.code_plan.specs.Forms.{IsStep, next_of}
use Rattle.code_plan.specs.Operands.{IsArg, IsTo}
use Rattle.code_plan.specs.Plans.{Goes}
use Rattle.code_plan.specs.Registers.{Marks, Pending, Site, may_give}
use Rattle.code_plan.specs.declared.blocks.Body.{Body}
use Rattle.code_plan.specs.declared.blocks.Run.{Run}
use Rattle.code_plan.specs.declared.late.LateLoad.{LateLoad}
use Rattle.code_plan.specs.declared.late.Mark.{Mark}
use Rattle.code_plan.specs.declared.late.Mark.TheVariants as mark
use Rattle.code_plan.specs.declared.operands.Place.{Place}
use Rattle.code_plan.specs.declared.steps.Step.{Step}
use Rattle.code_plan.specs.declared.steps.Step.TheVariants as act
use Rattle.go_base.specs.declared.ids.BlockId.{BlockId}
use Rattle.ssa_ir.specs.Blocks.{instrs_in}
use Rattle.ssa_ir.specs.declared.code.Block.{Block}
use Rattle.ssa_ir.specs.declared.operands.Operand.{Operand}
use Rattle.ssa_ir.specs.declared.operands.Operand.TheVariants as operand
use Rattle.ssa_ir.specs.declared.ops.Instr.{Instr}
use Rattle.ssa_ir.specs.declared.ops.Op.TheVariants as op
use Rattle.ssa_mean.specs.Unwinding.{phis_first}

-- ---- marks

abbrev pub is_late : Mark → Bool
is_late mark.Late = true
is_late _ = false

abbrev pub is_cell : Mark → Bool
is_cell mark.Cell = true
is_cell _ = false

-- a register that has no mark is a plain one
abbrev pub mark_at : List Mark → ℕ → Mark
mark_at marks register = unwrap_or (slice_get marks register) mark.Plain

abbrev pub marks_of : List Mark → Marks
marks_of marks = record {
  late = λ register. is_late (mark_at marks register);
  cell = λ register. is_cell (mark_at marks register);
}

-- ---- sites

abbrev pub pending_of : List LateLoad → Pending
pending_of loads = map (λ load. (load.register, load.cell)) loads

abbrev pub site_of : Place → Site
site_of place = record {
  code = place.planner.now.code.now;
  function = place.function.now;
  marks = marks_of place.marks.now;
  pending = pending_of place.pending.now;
}

abbrev pub site_with : Body → List LateLoad → Site
site_with body loads = record {
  code = body.planner.now.code.now;
  function = body.function.now;
  marks = marks_of body.marks.now;
  pending = pending_of loads;
}

-- ---- instructions

-- a value that stays as it is
abbrev pub IsKept : Site → Option ℕ → Operand → Step → Type 0
IsKept s register it (act.Keep arg slot) = IsArg s it arg × IsTo s register slot
IsKept s register it _ = ⊥

-- an instruction that is a load that is made later
pub record IsLateLoad (s : Site) (instr : Instr) (load : LateLoad) : Type 0 where
  pub loads : instr.op ≡ op.Load (operand.Register load.cell)
  pub gives : instr.register ≡ Some load.register
  pub late : s.marks.late load.register ≡ true
  pub no_cell : s.marks.cell load.register ≡ false
  pub within : load.register < length s.function.registers
  pub cell : s.marks.cell load.cell ≡ true
  pub not_late : s.marks.late load.cell ≡ false

-- the step that an instruction makes
pub record IsMade (s : Site) (instr : Instr) (step : Step) : Type 0 where
  pub given : may_give s.marks instr.op instr.register ≡ true
  pub made : IsStep s instr.register instr.op step

-- ---- runs of instructions

-- the steps of instructions that stand behind the phis of a block
abbrev pub HasSteps : Site → List Instr → List Step → Type 0
HasSteps s instrs steps = (last : Pending) × Goes s.code s.function s.marks [] instrs steps last

abbrev pub HasRun : Site → List Instr → Run → Type 0
HasRun s instrs run = Goes s.code s.function s.marks [] instrs run.steps.items (pending_of run.pending.items)

-- with one instruction more
abbrev pub GoesOn : Site → Run → Run → Instr → Type 0
GoesOn s old new instr = (instrs : List Instr) → HasRun s instrs old → HasRun s (instrs ++ instr ∷ []) new

-- ---- jumps

-- a block that does nothing but jump, where no phi asks from where the next is entered
pub record IsPassedOver (blocks : List Block) (block : ℕ) (next : BlockId) : Type 0 where
  pub leads : next_of (instrs_in (slice_get blocks block)) ≡ Some next
  pub phis : phis_first (instrs_in (slice_get blocks next.number)) ≡ 0
