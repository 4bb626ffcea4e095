-- The steps of instructions that are equal.
use Rattle.std.proofs.Common.{◌≡◌, ℕ, Option, subst, sym}
use Rattle.std.specs.Prelude.{IfOk, Result}
use Rattle.code_plan.specs.Forms.{IsStep}
use Rattle.code_plan.specs.Registers.{Site}
use Rattle.code_plan.specs.declared.steps.Step.{Step}
use Rattle.go_base.specs.declared.memory.NoMemory.{NoMemory}
use Rattle.ssa_ir.specs.declared.ops.Op.{Op}

pub stepped : (s : Site) (register : Option ℕ) (op other : Op) (it : Result Step NoMemory) → op ≡ other
    → IfOk it (λ step. IsStep s register other step) → IfOk it (λ step. IsStep s register op step)
stepped s register op other it e h = subst (λ (o : Op). IfOk it (λ step. IsStep s register o step)) (sym e) h
