-- Machines that are in the same worlds, and steps between them.
use Rattle.std.proofs.Common.{◌≡◌, ◌∙◌, ap, sym, subst}
use Rattle.interp_state.specs.Turns.{ComesTo, IsIn, Steps}
use Rattle.interp_state.specs.declared.machine.Machine.{Machine}
use Rattle.interp_state.specs.declared.machine.Turn.{Turn}
use Rattle.plan_mean.specs.State.{World, Next}
use Rattle.ssa_mean.specs.Faults.{naming_of}
use Rattle.interp_state.specs.Asked.{AreAsked}

-- all that worlds see of a machine
pub record AreAlike (old new : Machine) : Type 0 where
  pub plan : new.plan ≡ old.plan
  pub code : new.code ≡ old.code
  pub asked : new.implemented ≡ old.implemented

pub in_alike : (w : World) (old new : Machine) → AreAlike old new → IsIn w old → IsIn w new
in_alike w old new alike within =
    record {
      plan = ap (λ plan. plan.now) alike.plan ∙ within.plan;
      naming = ap (λ code. naming_of code.now) alike.code ∙ within.naming;
      answers = within.answers;
      asked = subst (AreAsked w.answers.implements) (sym alike.asked) within.asked;
    }

-- what a step leads to may be told otherwise
pub told : (result : Turn) (old new : Machine) (one other : World → Next) → ((w : World) → other w ≡ one w)
    → Steps result old new one → Steps result old new other
told result old new one other same step =
    record {
      comes = λ w within. subst (λ (next : Next). ComesTo w result new next) (sym (same w))
          (step.comes w within);
    }

-- a step of a machine that is in the same worlds
pub from_alike : (result : Turn) (old mid new : Machine) (one other : World → Next) → AreAlike old mid
    → ((w : World) → other w ≡ one w) → Steps result mid new one → Steps result old new other
from_alike result old mid new one other alike same step =
    record {
      comes = λ w within. subst (λ (next : Next). ComesTo w result new next) (sym (same w))
          (step.comes w (in_alike w old mid alike within));
    }
