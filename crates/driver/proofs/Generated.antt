-- From what the parts of the work on the generated program do to what it comes to.
use Rattle.std.proofs.Common.{◌≡◌, ℕ, Bool, false, List, [], ◌++◌, Option, Ok, Err, Result, IfOk, IsTrue, is_some, refl, sym, subst, inl, inr}
use Rattle.std.proofs.lemmas.List.{append-nil}
use Rattle.std.proofs.KnownBytes.{Appends-trans}
use Rattle.std.specs.Io.KnownBytes.{Appends}
use Rattle.go_base.specs.Devices.{AppendsFront}
use Rattle.go_base.specs.declared.ending.Ending.{Ending}
use Rattle.go_base.specs.declared.ending.Ending.TheVariants.{Bound}
use Rattle.go_interp.specs.Output.{HasWritten}
use Rattle.go_tree.specs.declared.program.Program.{Program}
use Rattle.program_work.specs.Outputs.{Comes, Does, Finishes, IsUnfinished}
use Rattle.program_work.specs.Stopping.{outcome_at}
use Rattle.program_work.specs.declared.outcome.Outcome.{Outcome}
use Rattle.program_work.specs.declared.outcome.Outcome.TheVariants as outcomes
use Rattle.program_work.specs.declared.stop.Stop.{Stop}
use Rattle.program_work.specs.Working.{HasRun, IsRun, IsSound}
use Rattle.program_work.proofs.Working.{still_tells, untrue}
use Rattle.program_work.proofs.Written.{whole_front, finished, stopped, finishes_as, unfinished_as}
use Rattle.ssa_ir.specs.declared.code.Code.{Code}
use Rattle.typed_trees.specs.Programs.{IsTypedProgram}
use Rattle.driver.specs.Generating.{Counts, IsGenerated, IsGeneratedRun, IsRunBehind, ticks}

run_is : (whole : Bool) (count : ℕ) (ending : Ending) (output : List ℕ) → IsGeneratedRun whole count ending output → IsGenerated whole count (outcomes.Ended ending) output
run_is whole count ending output is = record { ending = ending; outcome_is = refl; ran = is }

pub generated_comes : (count : ℕ) (ending : Ending) (old new : Option (List ℕ)) → Finishes (IsGeneratedRun (is_some old) count) ending old new → Comes (λ whole. IsGenerated whole count) (outcomes.Ended ending) old new
generated_comes count ending old new f = inl (finishes_as (IsGeneratedRun (is_some old) count) (IsGenerated (is_some old) count) ending (outcomes.Ended ending) old new (run_is (is_some old) count ending) f)

pub generated_stop_comes : (count : ℕ) (stop : Stop) (outcome : Outcome) (old new : Option (List ℕ)) → outcome ≡ outcome_at stop → IsUnfinished (IsGeneratedRun false count) old new → Comes (λ whole. IsGenerated whole count) outcome old new
generated_stop_comes count stop outcome old new e u =
    inr ((stop, e), unfinished_as (IsGeneratedRun false count) (IsGenerated false count) (λ (ending : Ending). outcomes.Ended ending) old new (run_is false count) u)

-- a text, and then what a run writes, of which nothing is told
some_run : (code : Code) (text : List ℕ) (ending : Ending) (run : List ℕ) → IsRunBehind false code text ending (text ++ run)
some_run code text ending run = record { run = run; is_run = λ h. untrue h; parts = refl }

pub behind_stops_in : (code : Code) (text : List ℕ) (old new : Option (List ℕ)) → AppendsFront old new text → IsUnfinished (IsRunBehind false code text) old new
behind_stops_in code text old new appends =
    stopped (IsRunBehind false code text) Bound text old new (subst (λ (l : List ℕ). IsRunBehind false code text Bound l) (append-nil text) (some_run code text Bound [])) appends

pub behind_stops : (code : Code) (text output : List ℕ) (old mid new : Option (List ℕ)) → Appends old mid text → Appends mid new output → IsUnfinished (IsRunBehind false code text) old new
behind_stops code text output old mid new a b =
    stopped (IsRunBehind false code text) Bound (text ++ output) old new (some_run code text Bound output) (whole_front old new (text ++ output) (Appends-trans old mid new text output a b))

pub behind_finishes : (code : Code) (text : List ℕ) (ending : Ending) (old mid new : Option (List ℕ)) → Appends old mid text → HasRun code [] ticks ending mid new → Finishes (IsRunBehind (is_some old) code text) ending old new
behind_finishes code text ending old mid new a r =
    finished (IsRunBehind (is_some old) code text) ending (text ++ r.output) old new (record { run = r.output; is_run = λ h. r.is_run (still_tells old mid text a h); parts = refl }) (Appends-trans old mid new text r.output a r.appends)

-- a text was written, and then a code was run
pub run_does : (code : Code) (text : List ℕ) (result : Result Ending Stop) (old mid new : Option (List ℕ)) → Appends old mid text → IfOk result (λ ending. HasRun code [] ticks ending mid new) → HasWritten mid new → Does (λ whole. IsRunBehind whole code text) result old new
run_does code text (Ok ending) old mid new a r w = behind_finishes code text ending old mid new a r
run_does code text (Err stop) old mid new a r w = behind_stops code text w.output old mid new a w.appends

-- what is known of the program and of its code
generated_run : (whole : Bool) (count : ℕ) (program : Program) (code : Code) (counts : List ℕ) (ending : Ending) (output : List ℕ) → IsTypedProgram program → IsSound code → Counts program count counts → IsRunBehind whole code counts ending output → IsGeneratedRun whole count ending output
generated_run whole count program code counts ending output typed sound is behind = record {
  program = program;
  typed = typed;
  code = code;
  sound = sound;
  counts = counts;
  is_counts = is;
  behind = behind;
}

pub counted_does : (count : ℕ) (program : Program) (code : Code) (counts text : List ℕ) (result : Result Ending Stop) (old new : Option (List ℕ)) → IsTypedProgram program → IsSound code → Counts program count counts → text ≡ counts → Does (λ whole. IsRunBehind whole code text) result old new → Does (λ whole. IsGeneratedRun whole count) result old new
counted_does count program code counts text result old new typed sound is e d = go result (subst (λ (t : List ℕ). Does (λ whole. IsRunBehind whole code t) result old new) e d)
  where
    go : (result : Result Ending Stop) → Does (λ whole. IsRunBehind whole code counts) result old new → Does (λ whole. IsGeneratedRun whole count) result old new
    go (Ok ending) f = finishes_as (IsRunBehind (is_some old) code counts) (IsGeneratedRun (is_some old) count) ending ending old new (λ output b. generated_run (is_some old) count program code counts ending output typed sound is b) f
    go (Err stop) u = unfinished_as (IsRunBehind false code counts) (IsGeneratedRun false count) (λ (ending : Ending). ending) old new (λ ending output b. generated_run false count program code counts ending output typed sound is b) u
