-- The plan of a code: each instruction as a step, each function with its blocks.
use Rattle.std.specs.Prelude.{ℕ, ◌+◌, ◌<◌, Bool, true, false, List, [], ◌∷◌, ◌++◌, Option, Some, None, drop}
use Rattle.std.specs.Prelude.{length, map}
use Rattle.std.specs.Prelude.{◌≡◌, ◌&&◌, ◌==◌}
use Rattle.std.specs.Prelude.{if◌then◌else◌, codes}
use Rattle.std.specs.List.{AllZip, find}
use Rattle.std.specs.Option.{option_map}
use Rattle.std.specs.Str.{bytes_eq}
use Rattle.code_plan.specs.Forms.{IsStep}
use Rattle.code_plan.specs.Operands.{IsArg, IsTo}
use Rattle.code_plan.specs.Registers.{Marks, Pending, Site, may_give, before, behind}
use Rattle.code_plan.specs.declared.steps.MethodOf.{MethodOf}
use Rattle.code_plan.specs.declared.steps.Plan.{Plan}
use Rattle.code_plan.specs.declared.steps.PlannedBlock.{PlannedBlock}
use Rattle.code_plan.specs.declared.steps.PlannedEdge.{PlannedEdge}
use Rattle.code_plan.specs.declared.steps.PlannedFunction.{PlannedFunction}
use Rattle.code_plan.specs.declared.steps.PlannedPhi.{PlannedPhi}
use Rattle.code_plan.specs.declared.steps.Role.{Role}
use Rattle.code_plan.specs.declared.steps.Role.TheVariants as role
use Rattle.code_plan.specs.declared.steps.Step.{Step}
use Rattle.go_base.specs.declared.ids.BlockId.{BlockId}
use Rattle.go_type.specs.Same.{same_id}
use Rattle.go_value.specs.Values.{value_of}
use Rattle.ssa_ir.specs.declared.code.Block.{Block}
use Rattle.ssa_ir.specs.declared.code.Code.{Code}
use Rattle.ssa_ir.specs.declared.code.Function.{Function}
use Rattle.ssa_ir.specs.declared.code.FunctionKind.{FunctionKind}
use Rattle.ssa_ir.specs.declared.code.FunctionKind.TheVariants as kind
use Rattle.ssa_ir.specs.declared.operands.Operand.TheVariants as operand
use Rattle.ssa_ir.specs.declared.ops.Instr.{Instr}
use Rattle.ssa_ir.specs.declared.ops.Op.{Op}
use Rattle.ssa_ir.specs.declared.ops.Op.TheVariants as op
use Rattle.ssa_ir.specs.declared.ops.PhiEdge.{PhiEdge}
use Rattle.ssa_mean.specs.Calls.{is_promotion, method_of}
use Rattle.ssa_mean.specs.Faults.{error_string}
use Rattle.ssa_mean.specs.Runs.{first_cells, starts_of}
use Rattle.ssa_mean.specs.Step.{front_phis}
use Rattle.ssa_mean.specs.Unwinding.{phis_first}

-- ---- the steps of instructions, one after another: from loads that are pending before them to those behind them

pub data Goes (code : Code) (function : Function) (marks : Marks) : Pending → List Instr → List Step → Pending → Type 0
  where
    here : (pending : Pending) → Goes code function marks pending [] [] pending
    -- a load that is made later makes no step
    late : (pending last : Pending) (instr : Instr) (instrs : List Instr) (steps : List Step) (register cell : ℕ)
        → instr.op ≡ op.Load (operand.Register cell) → instr.register ≡ Some register
        → marks.late register ≡ true → marks.cell register ≡ false → register < length function.registers
        → marks.cell cell ≡ true → marks.late cell ≡ false
        → Goes code function marks (pending ++ (register, cell) ∷ []) instrs steps last
        → Goes code function marks pending (instr ∷ instrs) steps last
    made : (pending last : Pending) (instr : Instr) (instrs : List Instr) (step : Step) (steps : List Step)
        → may_give marks instr.op instr.register ≡ true
        → IsStep (record { code = code; function = function; marks = marks; pending = before instr.op pending })
        instr.register instr.op step
        → Goes code function marks (behind step (before instr.op pending)) instrs steps last
        → Goes code function marks pending (instr ∷ instrs) (step ∷ steps) last

-- ---- phis

pub record IsEdge (s : Site) (edge : PhiEdge) (planned : PlannedEdge) : Type 0 where
  pub source : planned.from ≡ edge.from.number
  pub value : IsArg s edge.value planned.value

abbrev pub AreEdges : Site → Op → List PlannedEdge → Type 0
AreEdges s (op.Phi edges) planned = AllZip (IsEdge s) edges planned
AreEdges s _ planned = ⊥

pub record IsPhi (s : Site) (instr : Instr) (planned : PlannedPhi) : Type 0 where
  pub given : may_give s.marks instr.op instr.register ≡ true
  pub to : IsTo s instr.register planned.to
  pub edges : AreEdges s instr.op planned.edges.items

-- ---- blocks and functions

-- at the beginning of a block no loads are pending
pub record IsBlock (code : Code) (function : Function) (marks : Marks) (block : Block) (planned : PlannedBlock) : Type 0
  where
    pub phis : AllZip (IsPhi (record { code = code; function = function; marks = marks; pending = [] }))
        (front_phis block.instrs) planned.phis.items
    pub last : Pending
    pub steps : Goes code function marks [] (drop (phis_first block.instrs) block.instrs) planned.steps.items last

abbrev pub role_of : Function → FunctionKind → Role
role_of function kind.Source = role.Source
role_of function kind.Init = role.Init
role_of function kind.Wrapper = role.Wrapper
role_of function kind.External = if bytes_eq function.name (codes "os.Exit") then role.Exit else role.Gosched

-- the block that gives the results after a recovery is one of the function
abbrev pub IsWithin : Function → Option BlockId → Type 0
IsWithin function None = Unit {0}
IsWithin function (Some block) = block.number < length function.blocks

pub record IsFunction (code : Code) (marks : Marks) (function : Function) (planned : PlannedFunction) : Type 0 where
  pub role : planned.role ≡ role_of function function.kind
  pub promotes : planned.promotes ≡ is_promotion function
  pub params : planned.params ≡ length function.params
  pub slots : planned.slots ≡ length function.params + (length function.free + length function.registers)
  pub recover : planned.recover ≡ option_map (λ block. block.number) function.recover
  pub within : IsWithin function function.recover
  pub blocks : AllZip (IsBlock code function marks) function.blocks planned.blocks.items

-- by some marks of its registers
abbrev pub IsFunctionOf : Code → Function → PlannedFunction → Type 0
IsFunctionOf code function planned = (marks : Marks) × IsFunction code marks function planned

-- ---- the whole

abbrev pub is_method : MethodOf → MethodOf → Bool
is_method it other =
    same_id it.receiver other.receiver
    && ((it.method.name.number == other.method.name.number) && (it.method.«package» == other.method.«package»))

-- the function that a method is, by the plan
abbrev pub planned_method : Plan → MethodOf → Option ℕ
planned_method plan it = option_map (λ line. line.1) (find (λ line. is_method it line.0) plan.methods.entries)

pub record IsPlanOf (code : Code) (plan : Plan) : Type 0 where
  pub functions : AllZip (IsFunctionOf code) code.functions plan.functions.items
  pub methods : (it : MethodOf)
      → planned_method plan it
      ≡ option_map (λ id. id.number) (method_of code it.receiver it.method.name it.method.«package»)
  pub variables : first_cells code code.variables ≡ Some (map value_of plan.variables.items)
  pub starts : plan.starts.items ≡ map (λ id. id.number) (starts_of code)
  pub error_string : plan.error_string ≡ error_string code
