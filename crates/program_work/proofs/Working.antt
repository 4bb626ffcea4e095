use Rattle.std.proofs.Common.{◌≡◌, ◌∙◌, ◌⊎◌, ⊎_elim, ℕ, Bool, true, false, List, [], ◌++◌, Option, Some, None, refl, sym, ap, subst, inl, inr, IsTrue, is_some, IfSome}
use Rattle.std.proofs.KnownBytes.{Appends-nil, Appends-trans}
use Rattle.std.proofs.lemmas.List.{append-nil, append_cancel_left}
use Rattle.std.specs.Io.KnownBytes.{Appends}
use Rattle.cg_sets.specs.declared.edges.Edge.{Edge}
use Rattle.code_safety.proofs.Stepping.{never_stuck}
use Rattle.code_safety.specs.Safety.{IsSafe}
use Rattle.command_line.specs.declared.command.Letters.{Letters}
use Rattle.command_line.specs.declared.command.LoadCommand.{LoadCommand}
use Rattle.go_base.specs.declared.ending.Ending.TheVariants.{Bound}
use Rattle.go_base.specs.declared.ending.Ending.{Ending}
use Rattle.go_base.specs.declared.rule.Rule.TheVariants as rules
use Rattle.go_interp.specs.Output as interp
use Rattle.go_interp.specs.Ran.{TellsRun}
use Rattle.go_sources.specs.declared.sources.SourceFile.{SourceFile}
use Rattle.go_tree.specs.declared.program.Program.{Program}
use Rattle.ssa_ir.specs.declared.code.Code.{Code}
use Rattle.ssa_mean.specs.Runs.{IsRunOf}
use Rattle.ssa_print.specs.Codes as shown
use Rattle.program_work.proofs.Listings.{some_listing}
use Rattle.program_work.proofs.Written.{whole_front, front_behind, front_longer, finished, stopped, finishes_as, unfinished_as}
use Rattle.program_work.specs.Asked.{lack_naive, wants_registers}
use Rattle.program_work.specs.Graphs.{AreAsked}
use Rattle.program_work.specs.Outputs.{Comes, Finishes, IsUnfinished}
use Rattle.program_work.specs.Stopping.{outcome_at}
use Rattle.program_work.specs.Working.{AreSane, EndsIn, HasRun, IsCodeText, IsListing, IsNotBuilt, IsRun, IsRunBy, IsServed, IsSound, IsTextOf, IsWork, Lists, ListsFront, done, ran, outside, worked, first_path, start_of}
use Rattle.program_work.specs.declared.outcome.Outcome.TheVariants as outcomes
use Rattle.program_work.specs.declared.outcome.Outcome.{Outcome}
use Rattle.program_work.specs.declared.stop.Stop.TheVariants as stops
use Rattle.program_work.specs.declared.stop.Stop.{Stop}

-- From what the parts of the work do to what the work comes to.

-- ---- parts that were not asked

asked_code : (of : Option Code) (build : Option Letters) (letters : Letters) (text : List ℕ) → build ≡ Some letters → IsTextOf of letters text → IsCodeText of build text
asked_code of build letters text e is = subst (λ (b : Option Letters). IsCodeText of b text) (sym e) is

no_code : (of : Option Code) (build : Option Letters) → build ≡ None → IsCodeText of build []
no_code of build e = subst (λ (b : Option Letters). IsCodeText of b []) (sym e) refl

-- ---- what a run wrote

pub untrue : {A : Type 0} → IsTrue false → A
untrue h = cc

-- what was appended to a sink that tells what it holds is one text
one_text : (xs ys : List ℕ) (a b : List ℕ) → ys ≡ xs ++ a → ys ≡ xs ++ b → a ≡ b
one_text xs ys a b p q = append_cancel_left xs a b (sym p ∙ q)

-- sound code is not stuck
is_safe : (code : Code) → IsSound code → IsSafe code
unfolding AreSane
is_safe code sound = record { held = sound.held; sane = sound.sane; typed = sound.typed; runnable = sound.runnable }

told_run : (code : Code) (choices : List ℕ) (bound : ℕ) (ending : Ending) (xs ys output : List ℕ) → IsSound code → TellsRun code choices bound ending (Some xs) (Some ys) → ys ≡ xs ++ output → IsRun code choices bound ending output
told_run code choices bound ending xs ys output sound told appends answers are =
    let t = told answers are in
    let same : t.0 ≡ output = one_text xs ys t.0 output t.1.1 appends in
    let run : IsRunOf code choices bound t.0 ending = ⊎_elim (λ is. is) (λ halts. absurd (never_stuck code choices bound answers (is_safe code sound) are halts)) t.1.0 in
    subst (λ (o : List ℕ). IsRunOf code choices bound o ending) same run

pub has_run : (code : Code) (choices : List ℕ) (bound : ℕ) (ending : Ending) (old new : Option (List ℕ)) → IsSound code → TellsRun code choices bound ending old new → interp.HasWritten old new → HasRun code choices bound ending old new
has_run code choices bound ending None new sound told w = record { output = w.output; appends = w.appends; is_run = λ h. untrue h }
has_run code choices bound ending (Some xs) None sound told w = absurd w.appends
has_run code choices bound ending (Some xs) (Some ys) sound told w =
    record { output = w.output; appends = w.appends; is_run = λ h. told_run code choices bound ending xs ys w.output sound told w.appends }

-- a sink that tells what it holds goes on to
pub still_tells : (old new : Option (List ℕ)) (text : List ℕ) → Appends old new text → IsTrue (is_some old) → IsTrue (is_some new)
still_tells None new text a h = untrue h
still_tells (Some xs) None text a h = absurd a
still_tells (Some xs) (Some ys) text a h = h

-- ---- the work without code

-- a listing, and then a run
unprinted : (whole : Bool) (command : LoadCommand) (files : List SourceFile) (program : Program) (of : Option Code) (outcome : Outcome) (listing run : List ℕ) → command.build ≡ None → IfSome of IsSound → IsListing files program command.callgraph listing → EndsIn whole command of outcome run → IsWork whole command files program outcome (listing ++ run)
unprinted whole command files program of outcome listing run e sound listed ends = record {
  built = ap lack_naive e;
  of = of;
  sound = sound;
  code = [];
  listing = listing;
  run = run;
  is_code = no_code of command.build e;
  is_listing = listed;
  ends = ends;
  parts = refl;
}

listed_alone : (whole : Bool) (command : LoadCommand) (files : List SourceFile) (program : Program) (listing : List ℕ) → command.build ≡ None → command.run ≡ false → IsListing files program command.callgraph listing → IsWork whole command files program outcomes.Done listing
listed_alone whole command files program listing e idle listed =
    subst (λ (l : List ℕ). IsWork whole command files program outcomes.Done l) (append-nil listing) (unprinted whole command files program None outcomes.Done listing [] e tt listed (done idle refl refl))

pub listed_finishes : (whole : Bool) (command : LoadCommand) (files : List SourceFile) (program : Program) (old new : Option (List ℕ)) → command.build ≡ None → command.run ≡ false → Lists files program command.callgraph old new → Finishes (IsWork whole command files program) outcomes.Done old new
listed_finishes whole command files program old new e idle l = finished (IsWork whole command files program) outcomes.Done l.text old new (listed_alone whole command files program l.text e idle l.is_listing) l.appends

pub listed_stops : (command : LoadCommand) (files : List SourceFile) (program : Program) (old new : Option (List ℕ)) → command.build ≡ None → command.run ≡ false → ListsFront files program command.callgraph old new → IsUnfinished (IsWork false command files program) old new
listed_stops command files program old new e idle (inl l) = stopped (IsWork false command files program) outcomes.Done l.text old new (listed_alone false command files program l.text e idle l.is_listing) l.appends
listed_stops command files program old new e idle (inr nothing) = inl nothing

-- ---- a run of a code that is not printed

-- where the output is not whole, nothing is said of a run
unknown : (of : Option Code) (command : LoadCommand) (ending : Ending) (output : List ℕ) → IsTrue false → IsRunBy of command ending output
unknown of command ending output h = untrue h

run_work : (command : LoadCommand) (files : List SourceFile) (program : Program) (listing : List ℕ) (ending : Ending) (output : List ℕ) → command.build ≡ None → command.run ≡ true → IsListing files program command.callgraph listing → IsWork false command files program (outcomes.Ended ending) (listing ++ output)
run_work command files program listing ending output e runs listed =
    unprinted false command files program None (outcomes.Ended ending) listing output e tt listed (ran runs ending refl (unknown None command ending output))

pub listing_stops : (command : LoadCommand) (files : List SourceFile) (program : Program) (old new : Option (List ℕ)) → command.build ≡ None → command.run ≡ true → ListsFront files program command.callgraph old new → IsUnfinished (IsWork false command files program) old new
listing_stops command files program old new e runs (inl l) =
    stopped (IsWork false command files program) (outcomes.Ended Bound) (l.text ++ []) old new (run_work command files program l.text Bound [] e runs l.is_listing) (front_longer old new l.text [] l.appends)
listing_stops command files program old new e runs (inr nothing) = inl nothing

pub run_stops : (command : LoadCommand) (files : List SourceFile) (program : Program) (output : List ℕ) (old mid new : Option (List ℕ)) → command.build ≡ None → command.run ≡ true → Lists files program command.callgraph old mid → Appends mid new output → IsUnfinished (IsWork false command files program) old new
run_stops command files program output old mid new e runs l appends =
    stopped (IsWork false command files program) (outcomes.Ended Bound) (l.text ++ output) old new (run_work command files program l.text Bound output e runs l.is_listing) (front_behind old mid new l.text output l.appends (whole_front mid new output appends))

pub run_finishes : (command : LoadCommand) (files : List SourceFile) (program : Program) (code : Code) (ending : Ending) (old mid new : Option (List ℕ)) → command.build ≡ None → IsSound code → command.run ≡ true → Lists files program command.callgraph old mid → HasRun code command.choices command.bound ending mid new → Finishes (IsWork (is_some old) command files program) (outcomes.Ended ending) old new
run_finishes command files program code ending old mid new e sound runs l r =
    finished (IsWork (is_some old) command files program) (outcomes.Ended ending) (l.text ++ r.output) old new (unprinted (is_some old) command files program (Some code) (outcomes.Ended ending) l.text r.output e sound l.is_listing (ran runs ending refl (λ h. r.is_run (still_tells old mid l.text l.appends h)))) (Appends-trans old mid new l.text r.output l.appends r.appends)

-- ---- the work with a code that is printed

printed_work : (whole : Bool) (command : LoadCommand) (files : List SourceFile) (program : Program) (letters : Letters) (code : Code) (text listing : List ℕ) (outcome : Outcome) (run : List ℕ) → wants_registers command ≡ false → command.build ≡ Some letters → IsSound code → IsTextOf (Some code) letters text → IsListing files program command.callgraph listing → EndsIn whole command (Some code) outcome run → IsWork whole command files program outcome (text ++ (listing ++ run))
printed_work whole command files program letters code text listing outcome run built e sound is listed ends = record {
  built = built;
  of = Some code;
  sound = sound;
  code = text;
  listing = listing;
  run = run;
  is_code = asked_code (Some code) command.build letters text e is;
  is_listing = listed;
  ends = ends;
  parts = refl;
}

-- some way in which the work ends, without what a run writes
pub record SomeEnd (command : LoadCommand) (code : Code) : Type 0 where
  pub outcome : Outcome
  pub ends : EndsIn false command (Some code) outcome []

some_end : (command : LoadCommand) (code : Code) → SomeEnd command code
some_end command code = go command.run refl
  where
    go : (runs : Bool) → command.run ≡ runs → SomeEnd command code
    go true h = record { outcome = outcomes.Ended Bound; ends = ran h Bound refl (unknown (Some code) command Bound []) }
    go false h = record { outcome = outcomes.Done; ends = done h refl refl }

-- what a sound code is written as
abbrev Printed : Code → Letters → Option (List ℕ) → Option (List ℕ) → Type 0
Printed code letters old new = shown.Writes code letters.functions letters.counts old new

pub printing_stops : {S : Type 0} (command : LoadCommand) (files : List SourceFile) (program : Program) (letters : Letters) (code : Code) (edges : Option (List Edge)) (before after : S) (written : S → Option (List ℕ)) → wants_registers command ≡ false → command.build ≡ Some letters → IsSound code → AreAsked command.callgraph program edges → (after ≡ before) ⊎ shown.WritesFront code letters.functions letters.counts (written before) (written after) → IsUnfinished (IsWork false command files program) (written before) (written after)
printing_stops command files program letters code edges before after written built e sound are (inl same) = inl (subst (λ s. Appends (written before) (written s) []) (sym same) (Appends-nil (written before)))
printing_stops command files program letters code edges before after written built e sound are (inr w) =
    let end = some_end command code in
    let l = some_listing files program command.callgraph edges are in
    stopped (IsWork false command files program) end.outcome (w.text ++ (l.0 ++ [])) (written before) (written after) (printed_work false command files program letters code w.text l.0 end.outcome [] built e sound w.is l.1 end.ends) (front_longer (written before) (written after) w.text (l.0 ++ []) w.appends)

pub printed_listing_stops : (command : LoadCommand) (files : List SourceFile) (program : Program) (letters : Letters) (code : Code) (edges : Option (List Edge)) (old mid new : Option (List ℕ)) → wants_registers command ≡ false → command.build ≡ Some letters → IsSound code → AreAsked command.callgraph program edges → Printed code letters old mid → ListsFront files program command.callgraph mid new → IsUnfinished (IsWork false command files program) old new
printed_listing_stops command files program letters code edges old mid new built e sound are w (inl l) =
    let end = some_end command code in
    stopped (IsWork false command files program) end.outcome (w.text ++ (l.text ++ [])) old new (printed_work false command files program letters code w.text l.text end.outcome [] built e sound w.is l.is_listing end.ends) (front_behind old mid new w.text (l.text ++ []) w.appends (front_longer mid new l.text [] l.appends))
printed_listing_stops command files program letters code edges old mid new built e sound are w (inr nothing) =
    let end = some_end command code in
    let l = some_listing files program command.callgraph edges are in
    stopped (IsWork false command files program) end.outcome (w.text ++ (l.0 ++ [])) old new (printed_work false command files program letters code w.text l.0 end.outcome [] built e sound w.is l.1 end.ends) (front_behind old mid new w.text (l.0 ++ []) w.appends (front_longer mid new [] (l.0 ++ []) (whole_front mid new [] nothing)))

pub printed_finishes : (whole : Bool) (command : LoadCommand) (files : List SourceFile) (program : Program) (letters : Letters) (code : Code) (old mid new : Option (List ℕ)) → wants_registers command ≡ false → command.build ≡ Some letters → IsSound code → command.run ≡ false → Printed code letters old mid → Lists files program command.callgraph mid new → Finishes (IsWork whole command files program) outcomes.Done old new
printed_finishes whole command files program letters code old mid new built e sound idle w l =
    let listing : Appends mid new (l.text ++ []) = subst (λ (t : List ℕ). Appends mid new t) (sym (append-nil l.text)) l.appends in
    finished (IsWork whole command files program) outcomes.Done (w.text ++ (l.text ++ [])) old new (printed_work whole command files program letters code w.text l.text outcomes.Done [] built e sound w.is l.is_listing (done idle refl refl)) (Appends-trans old mid new w.text (l.text ++ []) w.appends listing)

-- the three parts behind one another
three : (old mid late new : Option (List ℕ)) (code listing output : List ℕ) → Appends old mid code → Appends mid late listing → Appends late new output → Appends old new (code ++ (listing ++ output))
three old mid late new code listing output a b c = Appends-trans old mid new code (listing ++ output) a (Appends-trans mid late new listing output b c)

pub printed_run_stops : (command : LoadCommand) (files : List SourceFile) (program : Program) (letters : Letters) (code : Code) (output : List ℕ) (old mid late new : Option (List ℕ)) → wants_registers command ≡ false → command.build ≡ Some letters → IsSound code → command.run ≡ true → Printed code letters old mid → Lists files program command.callgraph mid late → Appends late new output → IsUnfinished (IsWork false command files program) old new
printed_run_stops command files program letters code output old mid late new built e sound runs w l c =
    stopped (IsWork false command files program) (outcomes.Ended Bound) (w.text ++ (l.text ++ output)) old new (printed_work false command files program letters code w.text l.text (outcomes.Ended Bound) output built e sound w.is l.is_listing (ran runs Bound refl (unknown (Some code) command Bound output))) (whole_front old new (w.text ++ (l.text ++ output)) (three old mid late new w.text l.text output w.appends l.appends c))

pub printed_run_finishes : (command : LoadCommand) (files : List SourceFile) (program : Program) (letters : Letters) (code : Code) (ending : Ending) (old mid late new : Option (List ℕ)) → wants_registers command ≡ false → command.build ≡ Some letters → IsSound code → command.run ≡ true → Printed code letters old mid → Lists files program command.callgraph mid late → HasRun code command.choices command.bound ending late new → Finishes (IsWork (is_some old) command files program) (outcomes.Ended ending) old new
printed_run_finishes command files program letters code ending old mid late new built e sound runs w l r =
    finished (IsWork (is_some old) command files program) (outcomes.Ended ending) (w.text ++ (l.text ++ r.output)) old new (printed_work (is_some old) command files program letters code w.text l.text (outcomes.Ended ending) r.output built e sound w.is l.is_listing (ran runs ending refl (λ h. r.is_run (still_tells mid late l.text l.appends (still_tells old mid w.text w.appends h))))) (three old mid late new w.text l.text r.output w.appends l.appends r.appends)

-- ---- what calls come to

-- work that was done is no fault
pub work_faultless : (whole : Bool) (command : LoadCommand) (files : List SourceFile) (program : Program) (outcome : Outcome) (old new : Option (List ℕ)) → Finishes (IsWork whole command files program) outcome old new → outcome ≡ outcomes.WriteFault → ⊥
work_faultless whole command files program outcome old new f e = go f.is_right.ends
  where
    go : EndsIn whole command f.is_right.of outcome f.is_right.run → ⊥
    go (done idle d n) = cc
    go (ran runs ending d is) = cc

-- a write fault is that of a stop
pub fault_stop : (stop : Stop) (outcome : Outcome) → outcome ≡ outcome_at stop → outcome ≡ outcomes.WriteFault → stop ≡ stops.WriteFault
fault_stop stops.WriteFault outcome e f = refl
fault_stop stops.OutOfMemory outcome e f = cc
fault_stop stops.Internal outcome e f = cc

-- what is asked is not built
pub unbuilt_comes : (command : LoadCommand) (files : List SourceFile) (program : Program) (path : List ℕ) (outcome : Outcome) (told : Option (List ℕ)) → wants_registers command ≡ true → path ≡ first_path files → IsNotBuilt path outcome → Comes (λ whole. IsServed whole command files program) outcome told told
unbuilt_comes command files program path outcome told wants p (inl e) =
    let right : IsServed (is_some told) command files program outcome [] = outside wants (subst (λ (path : List ℕ). outcome ≡ outcomes.Refused (start_of path) rules.NotBuiltYet) p e) refl in
    inl (record { output = []; is_right = right; appends = Appends-nil told })
unbuilt_comes command files program path outcome told wants p (inr e) = inr ((stops.OutOfMemory, e), inl (Appends-nil told))

-- the work was done
pub worked_comes : (command : LoadCommand) (files : List SourceFile) (program : Program) (outcome : Outcome) (old new : Option (List ℕ)) → Finishes (IsWork (is_some old) command files program) outcome old new → Comes (λ whole. IsServed whole command files program) outcome old new
worked_comes command files program outcome old new f = inl (finishes_as (IsWork (is_some old) command files program) (IsServed (is_some old) command files program) outcome outcome old new (λ output is. worked is) f)

-- or it has stopped
pub stop_comes : (command : LoadCommand) (files : List SourceFile) (program : Program) (stop : Stop) (outcome : Outcome) (old new : Option (List ℕ)) → outcome ≡ outcome_at stop → IsUnfinished (IsWork false command files program) old new → Comes (λ whole. IsServed whole command files program) outcome old new
stop_comes command files program stop outcome old new e u =
    inr ((stop, e), unfinished_as (IsWork false command files program) (IsServed false command files program) (λ (o : Outcome). o) old new (λ value output is. worked is) u)
