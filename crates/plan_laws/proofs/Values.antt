-- Instructions that give values, or change the store, and go on.
use Rattle.std.specs.Prelude.{ℕ, ◌≡◌, true, [], Option}
use Rattle.code_plan.specs.Forms.{IsStep}
use Rattle.code_plan.specs.Registers.{may_give}
use Rattle.code_plan.specs.declared.steps.Step.{Step}
use Rattle.plan_laws.proofs.Acting.{Acting, IsActing, site_of, plan_site, acting_on}
use Rattle.plan_laws.proofs.Alike.{Known, IsKnown, Follows, IsPlaced}
use Rattle.plan_mean.specs.Step as planned
use Rattle.ssa_ir.specs.declared.ops.Op.{Op}
use Rattle.ssa_mean.specs.Step as steps

-- an instruction and its step do the same
abbrev pub IsAlike : Op → Type 0
IsAlike it =
    (k : Known) → IsKnown k → (a : Acting) (register : Option ℕ) (step : Step) →
    may_give (k.marks a.frame.function.number) it register ≡ true → IsStep (plan_site k a) register it step →
    IsActing k a step → Follows k (steps.acts (site_of k a) register it) (planned.acts k.w (acting_on a) step)

-- one at which a goroutine may wait: it stays where both stand
abbrev pub IsAlikeStaying : Op → Type 0
IsAlikeStaying it =
    (k : Known) → IsKnown k → (a : Acting) (register : Option ℕ) (step : Step) →
    may_give (k.marks a.frame.function.number) it register ≡ true → IsStep (plan_site k a) register it step →
    IsActing k a step → IsPlaced k a.function [] a.frame a.planned →
    Follows k (steps.acts (site_of k a) register it) (planned.acts k.w (acting_on a) step)
