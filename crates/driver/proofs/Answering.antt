-- From what the parts of a call come to, to its answer.
use Rattle.std.proofs.Common.{◌≡◌, ℕ, Bool, false, is_some, IsTrue, List, [], Option, Ok, Err, refl, sym, subst, inl, inr, ◌⊎◌}
use Rattle.std.proofs.KnownBytes.{Appends-nil}
use Rattle.command_line.specs.CommandLine.{command_of}
use Rattle.command_line.specs.declared.command.LoadCommand.{LoadCommand}
use Rattle.command_line.specs.declared.command.Command.TheVariants as commands
use Rattle.go_base.specs.Devices.{Tree, HasFaulted}
use Rattle.go_base.specs.declared.ending.Ending.{Ending}
use Rattle.go_base.specs.declared.place.Place.{Place}
use Rattle.go_base.specs.declared.rule.Rule.{Rule}
use Rattle.go_finding.specs.declared.error.LoadError.{LoadError}
use Rattle.go_finding.specs.declared.error.LoadError.TheVariants as errors
use Rattle.go_sources.specs.declared.program.Sources.{Sources}
use Rattle.go_sources.specs.declared.sources.SourceFile.{SourceFile}
use Rattle.go_sources.specs.Sources.{files_of}
use Rattle.go_load.specs.Answers.{IsLoaded, HasStopped}
use Rattle.go_tree.specs.declared.program.Program.{Program}
use Rattle.ssa_ir.specs.declared.code.Code.{Code}
use Rattle.program_work.specs.declared.outcome.Outcome.{Outcome}
use Rattle.program_work.specs.declared.outcome.Outcome.TheVariants as outcomes
use Rattle.program_work.specs.declared.stop.Stop.{Stop}
use Rattle.program_work.specs.declared.stop.Stop.TheVariants as stops
use Rattle.driver.specs.Generating.{IsGenerated}
use Rattle.program_work.specs.Outputs.{Comes, Finishes, IsUnfinished}
use Rattle.driver.specs.Performing.{IsUsage, outcome_of}
use Rattle.program_work.specs.Stopping.{outcome_at}
use Rattle.driver.specs.Reporting.{Becomes, IsSaidOf}
use Rattle.driver.specs.WholeAnswer.{Answers, HasProgram, IsRight, Works, generated, loaded, on_generated, on_loaded}
use Rattle.program_work.specs.Working.{EndsIn, IsResult, IsWork, broken, done, outside, ran, served, worked}
use Rattle.program_work.proofs.Written.{finished_stops, finishes_as, unfinished_as}

-- ---- what is right for what was asked

as_done : (whole : Bool) (words : List (List ℕ)) (files : Option Tree) (outcome : Outcome) (output : List ℕ) → outcome ≡ outcomes.Done → Works whole words files outcome output → IsRight whole words files outcome output
as_done whole words files outcome output e w = subst (λ (o : Outcome). IsRight whole words files o output) (sym e) (subst (λ (o : Outcome). Works whole words files o output) e w)

as_ended : (whole : Bool) (words : List (List ℕ)) (files : Option Tree) (outcome : Outcome) (ending : Ending) (output : List ℕ) → outcome ≡ outcomes.Ended ending → Works whole words files outcome output → IsRight whole words files outcome output
as_ended whole words files outcome ending output e w = subst (λ (o : Outcome). IsRight whole words files o output) (sym e) (subst (λ (o : Outcome). Works whole words files o output) e w)

as_refused : (whole : Bool) (words : List (List ℕ)) (files : Option Tree) (outcome : Outcome) (place : Place) (rule : Rule) (output : List ℕ) → outcome ≡ outcomes.Refused place rule → Works whole words files outcome output → IsRight whole words files outcome output
as_refused whole words files outcome place rule output e w = subst (λ (o : Outcome). IsRight whole words files o output) (sym e) (inr (subst (λ (o : Outcome). Works whole words files o output) e w))

works_right : (whole : Bool) (words : List (List ℕ)) (files : Option Tree) (command : LoadCommand) (sources : Sources) (outcome : Outcome) (output : List ℕ) → command_of words ≡ Ok (commands.Load command) → IsLoaded files command.target sources → IsResult whole command (files_of sources) outcome output → IsRight whole words files outcome output
works_right whole words files command sources outcome output asked is result = go result
  where
    works : Works whole words files outcome output
    works = on_loaded command sources asked is result

    go : IsResult whole command (files_of sources) outcome output → IsRight whole words files outcome output
    go (broken b n) = as_refused whole words files outcome b.place b.rule output b.outcome_is works
    go (served program typed (outside w e n)) = as_refused whole words files outcome _ _ output e works
    go (served program typed (worked w)) = elim w.ends [ done idle e n ↦ as_done whole words files outcome output e works | ran runs ending e is_run ↦ as_ended whole words files outcome ending output e works ]

generated_right : (whole : Bool) (words : List (List ℕ)) (files : Option Tree) (count : ℕ) (outcome : Outcome) (output : List ℕ) → command_of words ≡ Ok (commands.Generate count) → IsGenerated whole count outcome output → IsRight whole words files outcome output
generated_right whole words files count outcome output asked is = as_ended whole words files outcome is.ending output is.outcome_is (on_generated count asked is)

-- ---- what is right is right of a front

untrue : {A : Type 0} → IsTrue false → A
untrue h = cc

ends_loosely : (whole : Bool) (command : LoadCommand) (of : Option Code) (outcome : Outcome) (output : List ℕ) → EndsIn whole command of outcome output → EndsIn false command of outcome output
ends_loosely whole command of outcome output (done idle e n) = done idle e n
ends_loosely whole command of outcome output (ran runs ending e is_run) = ran runs ending e (λ h. untrue h)

work_loosely : (whole : Bool) (command : LoadCommand) (files : List SourceFile) (program : Program) (outcome : Outcome) (output : List ℕ) → IsWork whole command files program outcome output → IsWork false command files program outcome output
work_loosely whole command files program outcome output w = record {
  built = w.built;
  of = w.of;
  sound = w.sound;
  code = w.code;
  listing = w.listing;
  run = w.run;
  is_code = w.is_code;
  is_listing = w.is_listing;
  ends = ends_loosely whole command w.of outcome w.run w.ends;
  parts = w.parts;
}

result_loosely : (whole : Bool) (command : LoadCommand) (files : List SourceFile) (outcome : Outcome) (output : List ℕ) → IsResult whole command files outcome output → IsResult false command files outcome output
result_loosely whole command files outcome output (broken b n) = broken b n
result_loosely whole command files outcome output (served program typed (outside w e n)) = served program typed (outside w e n)
result_loosely whole command files outcome output (served program typed (worked w)) = served program typed (worked (work_loosely whole command files program outcome output w))

generated_loosely : (whole : Bool) (count : ℕ) (outcome : Outcome) (output : List ℕ) → IsGenerated whole count outcome output → IsGenerated false count outcome output
generated_loosely whole count outcome output is = record {
  ending = is.ending;
  outcome_is = is.outcome_is;
  ran = record {
    program = is.ran.program;
    typed = is.ran.typed;
    code = is.ran.code;
    sound = is.ran.sound;
    counts = is.ran.counts;
    is_counts = is.ran.is_counts;
    behind = record { run = is.ran.behind.run; is_run = λ h. untrue h; parts = is.ran.behind.parts };
  };
}

works_loosely : (whole : Bool) (words : List (List ℕ)) (files : Option Tree) (outcome : Outcome) (output : List ℕ) → Works whole words files outcome output → Works false words files outcome output
works_loosely whole words files outcome output (on_loaded command sources asked is result) = on_loaded command sources asked is (result_loosely whole command (files_of sources) outcome output result)
works_loosely whole words files outcome output (on_generated count asked is) = on_generated count asked (generated_loosely whole count outcome output is)

right_loosely : (whole : Bool) (words : List (List ℕ)) (files : Option Tree) (outcome : Outcome) (output : List ℕ) → IsRight whole words files outcome output → IsRight false words files outcome output
right_loosely whole words files outcomes.Done output w = works_loosely whole words files outcomes.Done output w
right_loosely whole words files (outcomes.Ended ending) output w = works_loosely whole words files (outcomes.Ended ending) output w
right_loosely whole words files (outcomes.Refused place rule) output (inl r) = inl r
right_loosely whole words files (outcomes.Refused place rule) output (inr w) = inr (works_loosely whole words files (outcomes.Refused place rule) output w)
right_loosely whole words files (outcomes.Usage word) output w = w
right_loosely whole words files outcomes.ReadFault output w = absurd w
right_loosely whole words files outcomes.WriteFault output w = absurd w
right_loosely whole words files outcomes.OutOfMemory output w = absurd w
right_loosely whole words files outcomes.InternalError output w = absurd w

-- ---- answers

-- a stop, where a program is there
stop_answers : (words : List (List ℕ)) (files : Option Tree) (stop : Stop) (old new : Option (List ℕ)) → HasProgram words files → IsUnfinished (IsRight false words files) old new → Answers words files (outcome_at stop) old new
stop_answers words files stops.WriteFault old new has u = u
stop_answers words files stops.OutOfMemory old new has u = u
stop_answers words files stops.Internal old new has u = (has, u)

-- an outcome that is right for some output
finished_answers : (words : List (List ℕ)) (files : Option Tree) (outcome : Outcome) (old new : Option (List ℕ)) → Finishes (IsRight (is_some old) words files) outcome old new → Answers words files outcome old new
finished_answers words files outcomes.Done old new f = f
finished_answers words files (outcomes.Ended ending) old new f = f
finished_answers words files (outcomes.Refused place rule) old new f = f
finished_answers words files (outcomes.Usage word) old new f = f
finished_answers words files outcomes.ReadFault old new f = absurd f.is_right
finished_answers words files outcomes.WriteFault old new f = absurd f.is_right
finished_answers words files outcomes.OutOfMemory old new f = absurd f.is_right
finished_answers words files outcomes.InternalError old new f = absurd f.is_right

comes_answers : (words : List (List ℕ)) (files : Option Tree) (right : Bool → Outcome → List ℕ → Type 0) (outcome : Outcome) (old new : Option (List ℕ)) → HasProgram words files → ((whole : Bool) (outcome : Outcome) (output : List ℕ) → right whole outcome output → IsRight whole words files outcome output) → Comes right outcome old new → Answers words files outcome old new
comes_answers words files right outcome old new has turns (inl f) =
    finished_answers words files outcome old new (finishes_as (right (is_some old)) (IsRight (is_some old) words files) outcome outcome old new (turns (is_some old) outcome) f)
comes_answers words files right outcome old new has turns (inr p) =
    subst (λ (o : Outcome). Answers words files o old new) (sym p.0.1) (stop_answers words files p.0.0 old new has (unfinished_as (right false) (IsRight false words files) (λ (o : Outcome). o) old new (turns false) p.1))

pub works_answers : (words : List (List ℕ)) (files : Option Tree) (command : LoadCommand) (sources : Sources) (outcome : Outcome) (old new : Option (List ℕ)) → command_of words ≡ Ok (commands.Load command) → IsLoaded files command.target sources → Comes (λ whole. IsResult whole command (files_of sources)) outcome old new → Answers words files outcome old new
works_answers words files command sources outcome old new asked is c =
    comes_answers words files (λ whole. IsResult whole command (files_of sources)) outcome old new (loaded command sources asked is) (λ whole outcome output result. works_right whole words files command sources outcome output asked is result) c

pub generated_answers : (words : List (List ℕ)) (files : Option Tree) (count : ℕ) (outcome : Outcome) (old new : Option (List ℕ)) → command_of words ≡ Ok (commands.Generate count) → Comes (λ whole. IsGenerated whole count) outcome old new → Answers words files outcome old new
generated_answers words files count outcome old new asked c =
    comes_answers words files (λ whole. IsGenerated whole count) outcome old new (generated count asked) (λ whole outcome output is. generated_right whole words files count outcome output asked is) c

-- memory is wanted
wants_answers : (words : List (List ℕ)) (files : Option Tree) (outcome : Outcome) (known : Option (List ℕ)) → outcome ≡ outcomes.OutOfMemory → Answers words files outcome known known
wants_answers words files outcome known e = subst (λ (o : Outcome). Answers words files o known known) (sym e) (inl (Appends-nil known))

pub stopped_answers : (words : List (List ℕ)) (files : Option Tree) (command : LoadCommand) (error : LoadError) (outcome : Outcome) (known : Option (List ℕ)) → command_of words ≡ Ok (commands.Load command) → HasStopped files command.target error → outcome ≡ outcome_of error → Answers words files outcome known known
stopped_answers words files command (errors.Refused place rule) outcome known asked why e =
    subst (λ (o : Outcome). Answers words files o known known) (sym e) (record { output = []; is_right = inl (record { command = command; asked = asked; breaks = why; nothing = refl }); appends = Appends-nil known })
stopped_answers words files command errors.ReadFault outcome known asked why e =
    subst (λ (o : Outcome). Answers words files o known known) (sym e) (record { command = command; asked = asked }, Appends-nil known)
stopped_answers words files command errors.OutOfMemory outcome known asked why e = wants_answers words files outcome known e

pub usage_answers : (words : List (List ℕ)) (files : Option Tree) (word : List ℕ) (outcome : Outcome) (known : Option (List ℕ)) → command_of words ≡ Err word → IsUsage word outcome → Answers words files outcome known known
usage_answers words files word outcome known asked (inl e) =
    subst (λ (o : Outcome). Answers words files o known known) (sym e) (record { output = []; is_right = (asked, refl); appends = Appends-nil known })
usage_answers words files word outcome known asked (inr e) = wants_answers words files outcome known e

-- what is finished is a front of itself
finishes_loosely : (words : List (List ℕ)) (files : Option Tree) (outcome : Outcome) (old new : Option (List ℕ)) → Finishes (IsRight (is_some old) words files) outcome old new → IsUnfinished (IsRight false words files) old new
finishes_loosely words files outcome old new f =
    finished_stops (IsRight false words files) outcome old new (finishes_as (IsRight (is_some old) words files) (IsRight false words files) outcome outcome old new (right_loosely (is_some old) words files outcome) f)

-- whatever was answered is a front of a right output
pub unfinished : (words : List (List ℕ)) (files : Option Tree) (outcome : Outcome) (old new : Option (List ℕ)) → Answers words files outcome old new → IsUnfinished (IsRight false words files) old new
unfinished words files outcomes.Done old new a = finishes_loosely words files outcomes.Done old new a
unfinished words files (outcomes.Ended ending) old new a = finishes_loosely words files (outcomes.Ended ending) old new a
unfinished words files (outcomes.Refused place rule) old new a = finishes_loosely words files (outcomes.Refused place rule) old new a
unfinished words files (outcomes.Usage word) old new a = finishes_loosely words files (outcomes.Usage word) old new a
unfinished words files outcomes.ReadFault old new a = inl a.1
unfinished words files outcomes.WriteFault old new a = a
unfinished words files outcomes.OutOfMemory old new a = a
unfinished words files outcomes.InternalError old new a = a.1

-- the answer stays one when standard error fails
pub answers_still : (words : List (List ℕ)) (files : Option Tree) (before now : ℕ) (outcome result : Outcome) (old new : Option (List ℕ)) → Answers words files outcome old new → Becomes before now outcome result → Answers words files result old new
answers_still words files before now outcome result old new a (inl same) = subst (λ (o : Outcome). Answers words files o old new) (sym same) a
answers_still words files before now outcome result old new a (inr (inl fault)) =
    subst (λ (o : Outcome). Answers words files o old new) (sym fault.0) (unfinished words files outcome old new a)
answers_still words files before now outcome result old new a (inr (inr memory)) =
    subst (λ (o : Outcome). Answers words files o old new) (sym memory) (unfinished words files outcome old new a)

-- a read fault is that of the files
pub read_fault_was : (before now : ℕ) (outcome result : Outcome) → Becomes before now outcome result → result ≡ outcomes.ReadFault → outcome ≡ outcomes.ReadFault
read_fault_was before now outcome result (inl same) e = cc
read_fault_was before now outcome result (inr (inl fault)) e = let f = fault.0 in cc
read_fault_was before now outcome result (inr (inr memory)) e = cc

-- a write fault is that of one of the sinks
pub write_fault_was : (before now : ℕ) (outcome result : Outcome) (P : Type 0) → Becomes before now outcome result → (outcome ≡ outcomes.WriteFault → P) → result ≡ outcomes.WriteFault → P ⊎ HasFaulted before now
write_fault_was before now outcome result P (inl same) h e = inl (h (cc))
write_fault_was before now outcome result P (inr (inl fault)) h e = inr fault.1
write_fault_was before now outcome result P (inr (inr memory)) h e = cc

-- what is said in place of an answer is one
pub said_answers : (words : List (List ℕ)) (files : Option Tree) (outcome : Outcome) (old new : Option (List ℕ)) → Answers words files outcome old new → (said : Outcome) → IsSaidOf outcome said → Answers words files said old new
said_answers words files outcome old new a said (inl same) = subst (λ (o : Outcome). Answers words files o old new) (sym same) a
said_answers words files outcome old new a said (inr memory) = subst (λ (o : Outcome). Answers words files o old new) (sym memory) (unfinished words files outcome old new a)
