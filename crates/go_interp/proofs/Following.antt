-- Steps one after another.
use Rattle.std.proofs.Common.{◌≡◌, ◌∙◌, ℕ, ◌+◌, ap, sym, refl, subst}
use Rattle.go_interp.specs.Steps.{HasSteps}
use Rattle.interp_state.specs.Machines.{machine_of}
use Rattle.interp_state.specs.Turns.{ComesTo, Steps}
use Rattle.interp_state.specs.declared.machine.Machine.{Machine}
use Rattle.interp_state.specs.declared.machine.Turn.{Turn}
use Rattle.interp_state.specs.declared.machine.Turn.TheVariants as turn
use Rattle.plan_mean.proofs.Fronts.{follow}
use Rattle.plan_mean.specs.Runs.{steps, then_step}
use Rattle.plan_mean.specs.State as meant
use Rattle.plan_mean.specs.State.{World, Next, goes, ends, stuck}
use Rattle.plan_mean.specs.Step.{step}

-- no step
pub no_steps : (m : Machine) → HasSteps turn.Goes m m
no_steps m = record { comes = λ w within. (0, (within, refl)) }

no_more : (w : World) (next : Next) → then_step (steps 0 w) next ≡ next
no_more w (goes m) = refl
no_more w (ends ending output) = refl
no_more w stuck = refl

-- one step more
step_more : (w : World) (n : ℕ) (m mid : meant.Machine) → steps n w m ≡ goes mid → steps (n + 1) w m ≡ step w mid
step_more w n m mid is = follow w n 1 m ∙ ap (then_step (steps 1 w)) is ∙ no_more w (step w mid)

pub more : (result : Turn) (old mid new : Machine) → HasSteps turn.Goes old mid
    → Steps result mid new (λ w. step w (machine_of mid)) → HasSteps result old new
more result old mid new first then =
    record {
      comes = λ w within.
          let those = first.comes w within in (
            those.0 + 1,
            subst (λ (n : Next). ComesTo w result new n)
                (sym (step_more w those.0 (machine_of old) (machine_of mid) those.1.1)) (then.comes w those.1.0),
          );
    }

-- the same where the turn is known
pub goes_more : (result : Turn) (old mid new : Machine) → result ≡ turn.Goes → HasSteps turn.Goes old mid
    → Steps result mid new (λ w. step w (machine_of mid)) → HasSteps turn.Goes old new
goes_more result old mid new is first then =
    subst (λ (r : Turn). HasSteps r old new) is (more result old mid new first then)

-- any want of memory
pub some_want : (old new : Machine) → HasSteps turn.WantsMemory old new
some_want old new = record { comes = λ w within. (0, tt) }
