-- Two runs come to one end.
use Rattle.std.proofs.Common.{◌≡◌, ℕ, zero, suc, List, [], sym, ◌∙◌, ap, subst}
use Rattle.go_base.specs.declared.ending.Ending.{Ending}
use Rattle.plan_mean.specs.Runs.{first_machine, steps, then_step, OneOutcome}
use Rattle.plan_mean.specs.State.{World, Machine, Next, goes, ends, stuck}
use Rattle.plan_mean.specs.Step.{step}

-- ---- what goes on has not ended

has_gone : Next → Type 0
has_gone (goes m) = Unit {0}
has_gone (ends e o) = ⊥
has_gone stuck = ⊥

unended : {A : Type 0} (m : Machine) (e : Ending) (o : List ℕ) → goes m ≡ ends e o → A
unfolding has_gone
unended m e o h = absurd (subst has_gone h tt)

-- ---- steps from one state lead to one end

IsOneEnd : World → ℕ → ℕ → Machine → Type 0
IsOneEnd w n k m =
    (e e' : Ending) (o o' : List ℕ) → steps n w m ≡ ends e o → steps k w m ≡ ends e' o' → ends e o ≡ ends e' o'

after_one : (w : World) (n k : ℕ) → ((m : Machine) → IsOneEnd w n k m) → (next : Next) → (e e' : Ending)
    (o o' : List ℕ) → then_step (steps n w) next ≡ ends e o → then_step (steps k w) next ≡ ends e' o'
    → ends e o ≡ ends e' o'
unfolding IsOneEnd
after_one w n k same (goes m) e e' o o' h h' = same m e e' o o' h h'
after_one w n k same (ends e'' o'') e e' o o' h h' = sym h ∙ h'
after_one w n k same stuck e e' o o' h h' = sym h ∙ h'

one_end : (w : World) (n k : ℕ) (m : Machine) → IsOneEnd w n k m
unfolding IsOneEnd
one_end w zero k m e e' o o' h h' = unended m e o h
one_end w (suc n) zero m e e' o o' h h' = unended m e' o' h'
one_end w (suc n) (suc k) m e e' o o' h h' = after_one w n k (one_end w n k) (step w m) e e' o o' h h'

-- ---- the law

ending_of : Ending → Next → Ending
ending_of other (goes m) = other
ending_of other (ends e o) = e
ending_of other stuck = other

output_of : Next → List ℕ
output_of (goes m) = m.output
output_of (ends e o) = o
output_of stuck = []

pub one_outcome_lem : OneOutcome
unfolding ending_of output_of IsOneEnd
one_outcome_lem w choices bound output output' ending ending' a b =
    let same : ends ending output ≡ ends ending' output' =
    one_end w a.count b.count (first_machine w choices bound) ending ending' output output' a.leads b.leads in
    (ap output_of same, ap (ending_of ending) same)
