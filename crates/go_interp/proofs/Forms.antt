-- Steps by their forms.
use Rattle.std.proofs.Common.{◌≡◌, ◌∙◌, ◌<◌, ℕ, zero, suc, Some, ap, sym, refl, subst, arith}
use Rattle.code_plan.specs.declared.steps.Step.{Step}
use Rattle.go_base.specs.declared.ending.Ending.TheVariants as ending
use Rattle.interp_state.proofs.Turns.{goes_to}
use Rattle.interp_state.specs.Machines.{machine_of}
use Rattle.interp_state.specs.States.{Spent}
use Rattle.interp_state.specs.Turns.{ComesTo, IsIn, Steps}
use Rattle.interp_state.specs.declared.machine.Machine.{Machine}
use Rattle.interp_state.specs.declared.machine.Turn.{Turn}
use Rattle.interp_state.specs.declared.machine.Turn.TheVariants as turn
use Rattle.plan_mean.specs.State.{World, Next, goes, ends}
use Rattle.plan_mean.specs.Step.{acts}
use Rattle.plan_mean.specs.Unwinding.{spends, with_tick}

-- a step of a form is a step
pub as_form : (result : Turn) (old new : Machine) (form step : Step) → step ≡ form
    → Steps result old new (λ w. acts w (machine_of old) form) → Steps result old new (λ w. acts w (machine_of old) step)
as_form result old new form step is made =
    subst (λ (step : Step). Steps result old new (λ w. acts w (machine_of old) step)) (sym is) made

-- what is said of a step in other words
pub as_said : (result : Turn) (old new : Machine) (said next : World → Next)
    → ((w : World) → IsIn w old → said w ≡ next w) → Steps result old new next → Steps result old new said
as_said result old new said next is made =
    record { comes = λ w within. subst (λ (n : Next). ComesTo w result new n) (sym (is w within)) (made.comes w within) }

-- a step from a machine on the way is one from the first
pub from_mid : (result : Turn) (old mid new : Machine) (said next : World → Next)
    → ((w : World) → IsIn w old → IsIn w mid) → ((w : World) → IsIn w old → said w ≡ next w) → Steps result mid new next
    → Steps result old new said
from_mid result old mid new said next within is made =
    record {
      comes = λ w there. subst (λ (n : Next). ComesTo w result new n) (sym (is w there)) (made.comes w (within w there));
    }

-- a tick is spent
pub ticked : (result : Turn) (old new : Machine)
    → (old.ticks ≡ 0 → (result ≡ turn.Ends) × (new ≡ record old { ending = Some ending.Bound }))
    → (0 < old.ticks → (result ≡ turn.Goes) × Spent old new) → Steps result old new (λ w. spends (machine_of old) goes)
ticked result old new none spent = by_ticks old.ticks refl
  where
    by_ticks : (n : ℕ) → old.ticks ≡ n → Steps result old new (λ w. spends (machine_of old) goes)
    by_ticks zero is =
        let did = none is in
        record {
          comes = λ w within. subst (λ (r : Turn). ComesTo w r new (spends (machine_of old) goes)) (sym did.0) (
            ending.Bound,
            (
              ap (λ (m : Machine). m.ending) did.1,
              ap (λ n. with_tick n (machine_of old) goes) is
                  ∙ ap (λ (m : Machine). ends ending.Bound m.output.items) (sym did.1),
            ),
          );
        }
    by_ticks (suc n) is =
        let did = spent (subst (λ (k : ℕ). 0 < k) (sym is) (search arith)) in
        record {
          comes = λ w within. goes_to w result new (spends (machine_of old) goes) did.0
              (subst (λ (m : Machine). IsIn w m) (sym did.1.others)
              (record { plan = within.plan; naming = within.naming; answers = within.answers; asked = within.asked }))
              (ap (λ n. with_tick n (machine_of old) goes) did.1.ticks ∙ ap goes (sym (ap machine_of did.1.others)));
        }
