-- The runs of the codes that are written by hand.
use mathlib.Core.Bool.{true≢false}
use Rattle.std.proofs.Common.{◌≡◌, ℕ, zero, suc, List, [], ◌∷◌, Option, Some, None, Bool, true, false, IsTrue, ◌↔◌}
use Rattle.std.proofs.Common.{refl, sym, subst, arith}
use Rattle.std.specs.Prelude.{codes}
use Rattle.std.specs.Fmt.{digits}
use Rattle.go_base.specs.declared.ending.Ending.{Ending}
use Rattle.go_base.specs.declared.ending.Ending.TheVariants.{Exited, Bound, Deadlock}
use Rattle.go_base.specs.declared.ids.TypeId.{TypeId}
use Rattle.go_type.specs.Assignable.{Implements}
use Rattle.go_type.specs.Comparable.{incomparable_to}
use Rattle.ssa_ir.specs.declared.code.Code.{Code}
use Rattle.ssa_mean.specs.Answers.{Answers, AreAnswers}
use Rattle.ssa_mean.specs.Examples.{few_types, swap_code, recover_code, go_code, send_code, map_code}
use Rattle.ssa_mean.specs.Faults.{error_string}
use Rattle.ssa_mean.specs.Runs.{steps, first_machine, IsRunOf}
use Rattle.ssa_mean.specs.State.{Machine, Next, goes, ends, stuck}
use Rattle.ssa_mean.specs.Step.{step, acts}
use Rattle.ssa_mean.specs.Zeros.{zero_of}

-- ---- the answers for the few types

abbrev is_any : ℕ → Bool
is_any zero = false
is_any (suc zero) = false
is_any (suc (suc zero)) = true
is_any (suc (suc (suc n))) = false

-- maps, the states of ranges and tuples are not comparable
abbrev has_equality : ℕ → Bool
has_equality zero = true
has_equality (suc zero) = true
has_equality (suc (suc zero)) = true
has_equality (suc (suc (suc zero))) = true
has_equality (suc (suc (suc (suc zero)))) = true
has_equality (suc (suc (suc (suc (suc zero))))) = true
has_equality (suc (suc (suc (suc (suc (suc zero)))))) = false
has_equality (suc (suc (suc (suc (suc (suc (suc zero))))))) = false
has_equality (suc (suc (suc (suc (suc (suc (suc (suc zero)))))))) = false
has_equality (suc (suc (suc (suc (suc (suc (suc (suc (suc n))))))))) = true

abbrev few_answers : Answers
few_answers = record { comparable = λ of. has_equality of.number; implements = λ _ wanted. is_any wanted.number }

IsTold : ℕ → Type 0
IsTold number =
    IsTrue (has_equality number) ↔ ((n : ℕ) → incomparable_to n few_types (record { number = number }) ≡ false)

compared : (number : ℕ) → ((n : ℕ) → incomparable_to (suc n) few_types (record { number = number }) ≡ false)
    → (n : ℕ) → incomparable_to n few_types (record { number = number }) ≡ false
compared number later zero = refl
compared number later (suc n) = later n

equality_told : (number : ℕ) → IsTold number
unfolding IsTold
equality_told zero = (λ _. compared 0 (λ _. refl), λ _. refl)
equality_told (suc zero) = (λ _. compared 1 (λ _. refl), λ _. refl)
equality_told (suc (suc zero)) = (λ _. compared 2 (λ _. refl), λ _. refl)
equality_told (suc (suc (suc zero))) = (λ _. compared 3 (λ _. refl), λ _. refl)
equality_told (suc (suc (suc (suc zero)))) = (λ _. compared 4 (λ _. refl), λ _. refl)
equality_told (suc (suc (suc (suc (suc zero))))) = (λ _. compared 5 (λ _. refl), λ _. refl)
equality_told (suc (suc (suc (suc (suc (suc zero)))))) = (λ h. absurd (true≢false (sym h)), λ c. absurd (true≢false (c 1)))
equality_told (suc (suc (suc (suc (suc (suc (suc zero))))))) = (λ h. absurd (true≢false (sym h)), λ c. absurd (true≢false (c 1)))
equality_told (suc (suc (suc (suc (suc (suc (suc (suc zero)))))))) = (λ h. absurd (true≢false (sym h)), λ c. absurd (true≢false (c 1)))
equality_told (suc (suc (suc (suc (suc (suc (suc (suc (suc n))))))))) = (λ _. compared (suc (suc (suc (suc (suc (suc (suc (suc (suc n))))))))) (λ _. refl), λ _. refl)

any_alone : (of : TypeId) (number : ℕ) → IsTrue (is_any number) ↔ Implements few_types of (record { number = number })
any_alone of zero = (λ h. absurd (true≢false (sym h)), λ h. absurd h)
any_alone of (suc zero) = (λ h. absurd (true≢false (sym h)), λ h. absurd h)
any_alone of (suc (suc zero)) = (λ h k d below. let no : ⊥ = omega arith in absurd no, λ h. refl)
any_alone of (suc (suc (suc zero))) = (λ h. absurd (true≢false (sym h)), λ h. absurd h)
any_alone of (suc (suc (suc (suc zero)))) = (λ h. absurd (true≢false (sym h)), λ h. absurd h)
any_alone of (suc (suc (suc (suc (suc zero))))) = (λ h. absurd (true≢false (sym h)), λ h. absurd h)
any_alone of (suc (suc (suc (suc (suc (suc zero)))))) = (λ h. absurd (true≢false (sym h)), λ h. absurd h)
any_alone of (suc (suc (suc (suc (suc (suc (suc zero))))))) = (λ h. absurd (true≢false (sym h)), λ h. absurd h)
any_alone of (suc (suc (suc (suc (suc (suc (suc (suc zero)))))))) = (λ h. absurd (true≢false (sym h)), λ h. absurd h)
any_alone of (suc (suc (suc (suc (suc (suc (suc (suc (suc n))))))))) = (λ h. absurd (true≢false (sym h)), λ h. absurd h)

few_told : AreAnswers few_types few_answers
unfolding IsTold
few_told = record {
  comparable = λ of. equality_told of.number;
  implements = λ of wanted. any_alone of wanted.number;
}

-- ---- the runs

first_steps : ℕ → Code → Option Machine → Next
first_steps n code None = stuck
first_steps n code (Some m) = steps n few_answers code m

has_ended : Next → Type 0
has_ended (goes m) = Unit {0}
has_ended (ends e o) = Unit {0}
has_ended stuck = ⊥

run_of : (code : Code) (choices : List ℕ) (bound n : ℕ) (output : List ℕ) (ending : Ending) (found : Option Machine)
    → AreAnswers code.types few_answers → first_machine code choices bound ≡ found
    → first_steps n code found ≡ ends ending output → IsRunOf code choices bound output ending
unfolding first_steps has_ended
run_of code choices bound n output ending None told begins leads = absurd (subst has_ended (sym leads) tt)
run_of code choices bound n output ending (Some m) told begins leads =
    record { answers = few_answers; told = told; first = m; begins = begins; count = n; leads = leads }

pub swap_run : IsRunOf swap_code [] 4 (codes "2 1\n") (Exited 0)
unfolding first_steps first_machine swap_code step acts zero_of error_string digits
swap_run = run_of swap_code [] 4 40 _ _ (first_machine swap_code [] 4) few_told refl refl

pub swap_bound : IsRunOf swap_code [] 0 [] Bound
unfolding first_steps first_machine swap_code step acts zero_of error_string digits
swap_bound = run_of swap_code [] 0 40 _ _ (first_machine swap_code [] 0) few_told refl refl

pub recover_run : IsRunOf recover_code [] 3 (codes "7\n") (Exited 0)
unfolding first_steps first_machine recover_code step acts zero_of error_string digits
recover_run = run_of recover_code [] 3 40 _ _ (first_machine recover_code [] 3) few_told refl refl

pub go_run : IsRunOf go_code [] 10 (codes "m\n") (Exited 0)
unfolding first_steps first_machine go_code step acts zero_of error_string digits
go_run = run_of go_code [] 10 40 _ _ (first_machine go_code [] 10) few_told refl refl

pub go_choice : IsRunOf go_code (1 ∷ []) 10 (codes "g\nm\n") (Exited 0)
unfolding first_steps first_machine go_code step acts zero_of error_string digits
go_choice = run_of go_code (1 ∷ []) 10 40 _ _ (first_machine go_code (1 ∷ []) 10) few_told refl refl

pub send_run : IsRunOf send_code [] 10 [] Deadlock
unfolding first_steps first_machine send_code step acts zero_of error_string digits
send_run = run_of send_code [] 10 40 _ _ (first_machine send_code [] 10) few_told refl refl

pub map_run : IsRunOf map_code (2 ∷ 0 ∷ []) 10 (codes "3\n1\n") (Exited 0)
unfolding first_steps first_machine map_code step acts zero_of error_string digits
map_run = run_of map_code (2 ∷ 0 ∷ []) 10 60 _ _ (first_machine map_code (2 ∷ 0 ∷ []) 10) few_told refl refl
