-- Two runs come to one end.
use mathlib.Core.Path.{fun_ext}
use Rattle.std.proofs.Common.{◌≡◌, ℕ, zero, suc, List, [], Option, Some, Bool, true, false, IsTrue, ◌↔◌, refl, sym, ◌∙◌, ap, subst}
use Rattle.go_base.specs.declared.ending.Ending.{Ending}
use Rattle.go_type.specs.Table.{Table}
use Rattle.ssa_ir.specs.declared.code.Code.{Code}
use Rattle.ssa_mean.specs.Answers.{Answers, AreAnswers}
use Rattle.ssa_mean.specs.Runs.{first_machine, steps, then_step, OneOutcome}
use Rattle.ssa_mean.specs.State.{Machine, Next, goes, ends, stuck}
use Rattle.ssa_mean.specs.Step.{step}

-- ---- answers that are those of the types are the same

same_test : (a b : Bool) → IsTrue a ↔ IsTrue b → a ≡ b
same_test true true h = refl
same_test false false h = refl
same_test true false h = sym (h.0 refl)
same_test false true h = h.1 refl

both_tell : {A B C : Type 0} → A ↔ C → B ↔ C → A ↔ B
both_tell p q = (λ a. q.1 (p.0 a), λ b. p.1 (q.0 b))

pub same_answers : (types : Table) (a b : Answers) → AreAnswers types a → AreAnswers types b → a ≡ b
same_answers types a b p q =
    let one : a.comparable ≡ b.comparable =
    fun_ext (λ of. same_test (a.comparable of) (b.comparable of) (both_tell (p.comparable of) (q.comparable of))) in
    let other : a.implements ≡ b.implements =
    fun_ext (λ of. fun_ext (λ wanted. same_test (a.implements of wanted) (b.implements of wanted)
    (both_tell (p.implements of wanted) (q.implements of wanted)))) in
    λ i. record { comparable = one i; implements = other i }

-- ---- what goes on has not ended

has_gone : Next → Type 0
has_gone (goes m) = Unit {0}
has_gone (ends e o) = ⊥
has_gone stuck = ⊥

pub unended : {A : Type 0} (m : Machine) (e : Ending) (o : List ℕ) → goes m ≡ ends e o → A
unfolding has_gone
unended m e o h = absurd (subst has_gone h tt)

-- ---- steps from one state lead to one end

IsOneEnd : Answers → Code → ℕ → ℕ → Machine → Type 0
IsOneEnd answers code n k m =
    (e e' : Ending) (o o' : List ℕ) → steps n answers code m ≡ ends e o → steps k answers code m ≡ ends e' o' →
    ends e o ≡ ends e' o'

after_one : (answers : Answers) (code : Code) (n k : ℕ) → ((m : Machine) → IsOneEnd answers code n k m) → (next : Next)
    → (e e' : Ending) (o o' : List ℕ) → then_step (steps n answers code) next ≡ ends e o
    → then_step (steps k answers code) next ≡ ends e' o' → ends e o ≡ ends e' o'
unfolding IsOneEnd
after_one answers code n k same (goes m) e e' o o' h h' = same m e e' o o' h h'
after_one answers code n k same (ends e'' o'') e e' o o' h h' = sym h ∙ h'
after_one answers code n k same stuck e e' o o' h h' = sym h ∙ h'

one_end : (answers : Answers) (code : Code) (n k : ℕ) (m : Machine) → IsOneEnd answers code n k m
unfolding IsOneEnd
one_end answers code zero k m e e' o o' h h' = unended m e o h
one_end answers code (suc n) zero m e e' o o' h h' = unended m e' o' h'
one_end answers code (suc n) (suc k) m e e' o o' h h' =
    after_one answers code n k (one_end answers code n k) (step answers code m) e e' o o' h h'

-- ---- the law

ending_of : Ending → Next → Ending
ending_of other (goes m) = other
ending_of other (ends e o) = e
ending_of other stuck = other

output_of : Next → List ℕ
output_of (goes m) = m.output
output_of (ends e o) = o
output_of stuck = []

pub machine_of : Machine → Option Machine → Machine
machine_of other (Some m) = m
machine_of other _ = other

pub first_is : (code : Code) (choices : List ℕ) (bound : ℕ) (one other : Machine)
    → first_machine code choices bound ≡ Some one → first_machine code choices bound ≡ Some other → one ≡ other
unfolding machine_of
first_is code choices bound one other p q = ap (machine_of one) (sym p ∙ q)

pub one_outcome_lem : OneOutcome
unfolding ending_of output_of IsOneEnd
one_outcome_lem code choices bound output output' ending ending' a b =
    let answers : b.answers ≡ a.answers = same_answers code.types b.answers a.answers b.told a.told in
    let first : b.first ≡ a.first = first_is code choices bound b.first a.first b.begins a.begins in
    let leads : steps b.count a.answers code a.first ≡ ends ending' output' =
    subst (λ m. steps b.count a.answers code m ≡ ends ending' output') first
    (subst (λ given. steps b.count given code b.first ≡ ends ending' output') answers b.leads) in
    let same : ends ending output ≡ ends ending' output' =
    one_end a.answers code a.count b.count a.first ending ending' output output' a.leads leads in
    (ap output_of same, ap (ending_of ending) same)
