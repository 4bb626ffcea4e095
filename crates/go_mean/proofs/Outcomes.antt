-- Two runs come to one end.
use Rattle.std.proofs.Common.{◌≡◌, ℕ, zero, suc, List, Option, Some, sym, ◌∙◌, ap, subst}
use Rattle.go_base.specs.declared.ending.Ending.{Ending}
use Rattle.go_tree.specs.declared.program.Program.{Program}
use Rattle.ssa_mean.proofs.Outcomes.{same_answers}
use Rattle.go_mean.specs.Runs.{Run, HasTaken, HasCalled, OneMeaning, OneRecord, first_machine, steps, then_step, setting_of, led_to}
use Rattle.go_mean.specs.State.{Setting, CallOf, Machine, Next, goes, ends, stuck}
use Rattle.go_mean.specs.Step.{step}

-- ---- what goes on has not ended

has_gone : Next → Type 0
has_gone (goes m) = Unit {0}
has_gone (ends e o) = ⊥
has_gone stuck = ⊥

pub unended : {A : Type 0} (m : Machine) (e : Ending) (o : Machine) → goes m ≡ ends e o → A
unfolding has_gone
unended m e o h = absurd (subst has_gone h tt)

-- ---- steps from one state lead to one end

IsOneEnd : Setting → ℕ → ℕ → Machine → Type 0
IsOneEnd s n k m =
    (e e' : Ending) (o o' : Machine) → steps n s m ≡ ends e o → steps k s m ≡ ends e' o' → ends e o ≡ ends e' o'

after_one : (s : Setting) (n k : ℕ) → ((m : Machine) → IsOneEnd s n k m) → (next : Next) → (e e' : Ending) (o o' : Machine)
    → then_step (steps n s) next ≡ ends e o → then_step (steps k s) next ≡ ends e' o' → ends e o ≡ ends e' o'
unfolding IsOneEnd
after_one s n k same (goes m) e e' o o' h h' = same m e e' o o' h h'
after_one s n k same (ends e'' o'') e e' o o' h h' = sym h ∙ h'
after_one s n k same stuck e e' o o' h h' = sym h ∙ h'

one_end : (s : Setting) (n k : ℕ) (m : Machine) → IsOneEnd s n k m
unfolding IsOneEnd
one_end s zero k m e e' o o' h h' = unended m e o h
one_end s (suc n) zero m e e' o o' h h' = unended m e' o' h'
one_end s (suc n) (suc k) m e e' o o' h h' = after_one s n k (one_end s n k) (step s m) e e' o o' h h'

-- ---- two runs begin alike

pub machine_of : Machine → Option Machine → Machine
machine_of other (Some m) = m
machine_of other _ = other

pub first_is : (p : Program) (choices : List ℕ) (bound : ℕ) (one other : Machine)
    → first_machine p choices bound ≡ Some one → first_machine p choices bound ≡ Some other → one ≡ other
unfolding machine_of
first_is p choices bound one other h h' = ap (machine_of one) (sym h ∙ h')

-- what a run leads to, it leads to from the beginning of another
pub begun_as : (p : Program) (choices : List ℕ) (bound : ℕ) (a b : Run p choices bound) (to : Next) → led_to b ≡ to
    → steps b.count (setting_of p a.answers) a.first ≡ to
begun_as p choices bound a b to h =
    subst (λ m. steps b.count (setting_of p a.answers) m ≡ to)
    (first_is p choices bound b.first a.first b.begins a.begins)
    (subst (λ given. steps b.count (setting_of p given) b.first ≡ to)
    (same_answers p.types b.answers a.answers b.told a.told) h)

pub one_end_of : (p : Program) (choices : List ℕ) (bound : ℕ) (a b : Run p choices bound) (e e' : Ending) (o o' : Machine)
    → led_to a ≡ ends e o → led_to b ≡ ends e' o' → ends e o ≡ ends e' o'
unfolding IsOneEnd
one_end_of p choices bound a b e e' o o' h h' =
    one_end (setting_of p a.answers) a.count b.count a.first e e' o o' h
    (begun_as p choices bound a b (ends e' o') h')

-- ---- the laws

ending_of : Ending → Next → Ending
ending_of other (goes m) = other
ending_of other (ends e o) = e
ending_of other stuck = other

last_of : Machine → Next → Machine
last_of other (goes m) = m
last_of other (ends e o) = o
last_of other stuck = other

one_last : (o o' : Machine) (e e' : Ending) → ends e o ≡ ends e' o' → o ≡ o'
unfolding last_of
one_last o o' e e' h = ap (last_of o) h

one_ending : (o o' : Machine) (e e' : Ending) → ends e o ≡ ends e' o' → e ≡ e'
unfolding ending_of
one_ending o o' e e' h = ap (ending_of e) h

pub one_meaning_lem : OneMeaning
one_meaning_lem p choices bound output output' ending ending' a b =
    let same : ends ending a.last ≡ ends ending' b.last =
    one_end_of p choices bound a.run b.run ending ending' a.last b.last a.leads b.leads in
    (sym a.written ∙ (ap (λ m. m.output) (one_last a.last b.last ending ending' same) ∙ b.written), one_ending a.last b.last ending ending' same)

one_taken : (p : Program) (choices : List ℕ) (bound : ℕ) (taken taken' : List ℕ) → HasTaken p choices bound taken
    → HasTaken p choices bound taken' → taken ≡ taken'
one_taken p choices bound taken taken' a b =
    let same : ends a.ending a.last ≡ ends b.ending b.last =
    one_end_of p choices bound a.run b.run a.ending b.ending a.last b.last a.leads b.leads in
    sym a.took ∙ (ap (λ m. m.sched.taken) (one_last a.last b.last a.ending b.ending same) ∙ b.took)

one_called : (p : Program) (choices : List ℕ) (bound : ℕ) (calls calls' : List CallOf) → HasCalled p choices bound calls
    → HasCalled p choices bound calls' → calls ≡ calls'
one_called p choices bound calls calls' a b =
    let same : ends a.ending a.last ≡ ends b.ending b.last =
    one_end_of p choices bound a.run b.run a.ending b.ending a.last b.last a.leads b.leads in
    sym a.called ∙ (ap (λ m. m.calls) (one_last a.last b.last a.ending b.ending same) ∙ b.called)

pub one_record_lem : OneRecord
one_record_lem p choices bound = (one_taken p choices bound, one_called p choices bound)
