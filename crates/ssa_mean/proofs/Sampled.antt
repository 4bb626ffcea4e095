-- The runs of further codes that are written by hand.
use Rattle.std.proofs.Common.{◌≡◌, ℕ, List, [], ◌∷◌, Option, Some, None, refl, sym, subst}
use Rattle.std.specs.Prelude.{codes}
use Rattle.std.specs.Fmt.{digits}
use lib.Utf8.{encode}
use Rattle.std.specs.Str.{is_utf8, chars}
use Rattle.go_base.specs.declared.ending.Ending.{Ending}
use Rattle.go_base.specs.declared.ending.Ending.TheVariants.{Exited, Panicked}
use Rattle.ssa_ir.specs.declared.code.Code.{Code}
use Rattle.ssa_mean.specs.Answers.{Answers}
use Rattle.ssa_mean.specs.Faults.{error_string}
use Rattle.ssa_mean.specs.Runs.{steps, first_machine}
use Rattle.ssa_mean.specs.Samples.{RunsTo, range_code, append_code, select_code, invoke_code, fault_code, exit_code}
use Rattle.ssa_mean.specs.State.{Machine, Next, goes, ends, stuck}
use Rattle.ssa_mean.specs.Step.{step, acts}
use Rattle.ssa_mean.specs.Zeros.{zero_of}

first_steps : ℕ → Answers → Code → Option Machine → Next
first_steps n answers code None = stuck
first_steps n answers code (Some m) = steps n answers code m

has_ended : Next → Type 0
has_ended (goes m) = Unit {0}
has_ended (ends e o) = Unit {0}
has_ended stuck = ⊥

run_of : (code : Code) (choices : List ℕ) (bound n : ℕ) (output : List ℕ) (ending : Ending) (found : Option Machine)
    → first_machine code choices bound ≡ found
    → ((answers : Answers) → first_steps n answers code found ≡ ends ending output) → RunsTo code choices bound output ending
unfolding first_steps has_ended
run_of code choices bound n output ending None begins leads answers told =
    absurd (subst has_ended (sym (leads answers)) tt)
run_of code choices bound n output ending (Some m) begins leads answers told =
    record { answers = answers; told = told; first = m; begins = begins; count = n; leads = leads answers }

pub range_run : RunsTo range_code [] 10 (codes "0 97\n1 65533\n2 233\n")
    (Exited 0)
unfolding first_steps first_machine range_code step acts zero_of error_string digits is_utf8 chars encode
range_run =
    run_of range_code [] 10 60 (codes "0 97\n1 65533\n2 233\n") (Exited 0)
    (first_machine range_code [] 10) refl (λ answers. refl)

pub append_run : RunsTo append_code [] 10 (codes "3 4 1 9 3\n")
    (Panicked (codes "runtime error: index out of range [3] with length 3"))
unfolding first_steps first_machine append_code step acts zero_of error_string digits is_utf8 chars encode
append_run =
    run_of append_code [] 10 60 (codes "3 4 1 9 3\n") (Panicked (codes "runtime error: index out of range [3] with length 3"))
    (first_machine append_code [] 10) refl (λ answers. refl)

pub select_first : RunsTo select_code (0 ∷ []) 10 (codes "0 1 0\n")
    (Exited 0)
unfolding first_steps first_machine select_code step acts zero_of error_string digits is_utf8 chars encode
select_first =
    run_of select_code (0 ∷ []) 10 60 (codes "0 1 0\n") (Exited 0)
    (first_machine select_code (0 ∷ []) 10) refl (λ answers. refl)

pub select_second : RunsTo select_code (3 ∷ []) 10 (codes "1 0 2\n")
    (Exited 0)
unfolding first_steps first_machine select_code step acts zero_of error_string digits is_utf8 chars encode
select_second =
    run_of select_code (3 ∷ []) 10 60 (codes "1 0 2\n") (Exited 0)
    (first_machine select_code (3 ∷ []) 10) refl (λ answers. refl)

pub invoke_run : RunsTo invoke_code [] 10 (codes "M 5\n")
    (Exited 0)
unfolding first_steps first_machine invoke_code step acts zero_of error_string digits is_utf8 chars encode
invoke_run =
    run_of invoke_code [] 10 60 (codes "M 5\n") (Exited 0)
    (first_machine invoke_code [] 10) refl (λ answers. refl)

pub fault_run : RunsTo fault_code [] 10 (codes "d\n")
    (Panicked (codes "runtime error: integer divide by zero"))
unfolding first_steps first_machine fault_code step acts zero_of error_string digits is_utf8 chars encode
fault_run =
    run_of fault_code [] 10 60 (codes "d\n") (Panicked (codes "runtime error: integer divide by zero"))
    (first_machine fault_code [] 10) refl (λ answers. refl)

pub exit_run : RunsTo exit_code [] 10 (codes "-9223372036854775808 0\n")
    (Exited 255)
unfolding first_steps first_machine exit_code step acts zero_of error_string digits is_utf8 chars encode
exit_run =
    run_of exit_code [] 10 60 (codes "-9223372036854775808 0\n") (Exited 255)
    (first_machine exit_code [] 10) refl (λ answers. refl)
