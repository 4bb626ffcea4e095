-- What a run has written on its way stands first in what it writes in all.
use Rattle.std.proofs.Common.{◌≡◌, ℕ, zero, suc, List, [], sym, ap, subst}
use Rattle.go_base.specs.declared.ending.Ending.{Ending}
use Rattle.ssa_mean.proofs.Outputs.{Stands, stands_on}
use Rattle.go_mean.specs.Runs.{steps, then_step, setting_of, FrontsStand}
use Rattle.go_mean.specs.State.{Setting, Machine, Next, goes, ends, stuck}
use Rattle.go_mean.specs.Step.{step}
use Rattle.go_mean.proofs.Outcomes.{begun_as}
use Rattle.go_mean.proofs.Outputs.{Grows}
use Rattle.go_mean.proofs.StepOutputs.{step_grows}

has_ended : Next → Type 0
has_ended (goes m) = ⊥
has_ended (ends e o) = Unit {0}
has_ended stuck = ⊥

has_gone : Next → Type 0
has_gone (goes m) = Unit {0}
has_gone (ends e o) = ⊥
has_gone stuck = ⊥

-- what was written stands first where the run ends
IsFront : Setting → ℕ → Machine → Type 0
IsFront s n m = (e : Ending) (o : Machine) → steps n s m ≡ ends e o → Stands m.output o.output

output_in : Next → List ℕ
output_in (goes m) = m.output
output_in (ends e m) = m.output
output_in stuck = []

ended_stands : (out : List ℕ) (e e' : Ending) (o o' : Machine) → ends e o ≡ ends e' o' → Stands out o.output
    → Stands out o'.output
unfolding output_in
ended_stands out e e' o o' h stands = subst (Stands out) (ap output_in h) stands

front_by : (s : Setting) (n : ℕ) (out : List ℕ) → ((m : Machine) → IsFront s n m) → (next : Next) → Grows out next
    → (e : Ending) (o : Machine) → then_step (steps n s) next ≡ ends e o → Stands out o.output
unfolding IsFront has_ended Grows
front_by s n out later (goes m) grown e o h = stands_on out m.output o.output grown (later m e o h)
front_by s n out later (ends e' o') grown e o h = ended_stands out e' e o' o h grown
front_by s n out later stuck grown e o h = absurd (subst has_ended (sym h) tt)

front : (s : Setting) (n : ℕ) (m : Machine) → IsFront s n m
unfolding IsFront has_ended
front s zero m e o h = absurd (subst has_ended (sym h) tt)
front s (suc n) m e o h = front_by s n m.output (front s n) (step s m) (step_grows s m) e o h

-- a run that stands at a machine, and one that has ended, from one state
IsPast : Setting → ℕ → ℕ → Machine → Type 0
IsPast s k n m =
    (at : Machine) (e : Ending) (o : Machine) → steps k s m ≡ goes at → steps n s m ≡ ends e o →
    Stands at.output o.output

past_by : (s : Setting) (k n : ℕ) → ((m : Machine) → IsPast s k n m) → (next : Next) → (at : Machine) (e : Ending)
    (o : Machine) → then_step (steps k s) next ≡ goes at → then_step (steps n s) next ≡ ends e o
    → Stands at.output o.output
unfolding IsPast has_gone
past_by s k n later (goes m) at e o h h' = later m at e o h h'
past_by s k n later (ends e' o') at e o h h' = absurd (subst has_gone (sym h) tt)
past_by s k n later stuck at e o h h' = absurd (subst has_gone (sym h) tt)

past : (s : Setting) (k n : ℕ) (m : Machine) → IsPast s k n m
unfolding IsPast IsFront has_gone has_ended output_in
past s zero n m at e o h h' = subst (λ out. Stands out o.output) (ap output_in h) (front s n m e o h')
past s (suc k) zero m at e o h h' = absurd (subst has_ended (sym h') tt)
past s (suc k) (suc n) m at e o h h' = past_by s k n (past s k n) (step s m) at e o h h'

pub fronts_stand : FrontsStand
unfolding IsPast
fronts_stand p choices bound written output ending way whole =
    let leads : steps whole.run.count (setting_of p way.run.answers) way.run.first ≡ ends ending whole.last =
    begun_as p choices bound way.run whole.run (ends ending whole.last) whole.leads in
    subst (λ out. Stands out output) way.written
    (subst (λ out. Stands way.machine.output out) whole.written
    (past (setting_of p way.run.answers) way.run.count whole.run.count way.run.first way.machine ending whole.last
    way.leads leads))
