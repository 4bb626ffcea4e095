-- From what a check comes to, to what the work comes to.
use Rattle.std.proofs.Common.{◌≡◌, ℕ, Bool, false, is_some, List, [], Option, refl, inl, inr}
use Rattle.std.proofs.KnownBytes.{Appends-nil}
use Rattle.command_line.specs.declared.command.LoadCommand.{LoadCommand}
use Rattle.go_sources.specs.declared.sources.SourceFile.{SourceFile}
use Rattle.program_work.specs.Checking.{IsRefusal}
use Rattle.go_tree.specs.declared.program.Program.{Program}
use Rattle.program_work.specs.Outputs.{Comes}
use Rattle.program_work.specs.Working.{IsResult, IsServed, broken, served}
use Rattle.program_work.specs.declared.outcome.Outcome.{Outcome}
use Rattle.program_work.specs.declared.outcome.Outcome.TheVariants as outcomes
use Rattle.program_work.specs.declared.stop.Stop.TheVariants as stops
use Rattle.program_work.proofs.Written.{finishes_as, unfinished_as}
use Rattle.typed_trees.specs.Programs.{IsTypedProgram}

-- a refusal
pub refusal_comes : (command : LoadCommand) (files : List SourceFile) (outcome : Outcome) (told : Option (List ℕ)) → IsRefusal files outcome → Comes (λ whole. IsResult whole command files) outcome told told
refusal_comes command files outcome told (inl is) = inl (record { output = []; is_right = broken is refl; appends = Appends-nil told })
refusal_comes command files outcome told (inr (inl e)) = inr ((stops.OutOfMemory, e), inl (Appends-nil told))
refusal_comes command files outcome told (inr (inr e)) = inr ((stops.Internal, e), inl (Appends-nil told))

-- what the work on a program comes to
pub served_comes : (command : LoadCommand) (files : List SourceFile) (program : Program) (outcome : Outcome) (old new : Option (List ℕ)) → IsTypedProgram program → Comes (λ whole. IsServed whole command files program) outcome old new → Comes (λ whole. IsResult whole command files) outcome old new
served_comes command files program outcome old new typed (inl f) = inl (finishes_as (IsServed (is_some old) command files program) (IsResult (is_some old) command files) outcome outcome old new (λ output is. served program typed is) f)
served_comes command files program outcome old new typed (inr p) = inr (p.0, unfinished_as (IsServed false command files program) (IsResult false command files) (λ (o : Outcome). o) old new (λ value output is. served program typed is) p.1)

-- a refusal is no fault
pub refusal_faultless : (files : List SourceFile) (outcome : Outcome) → IsRefusal files outcome → outcome ≡ outcomes.WriteFault → ⊥
refusal_faultless files outcome (inl is) e = let f = is.outcome_is in cc
refusal_faultless files outcome (inr (inl f)) e = cc
refusal_faultless files outcome (inr (inr f)) e = cc

-- what was made of a program is not what it has to be
pub lost_comes : (right : Bool → Outcome → List ℕ → Type 0) (outcome : Outcome) (told : Option (List ℕ)) → outcome ≡ outcomes.InternalError → Comes right outcome told told
lost_comes right outcome told e = inr ((stops.Internal, e), inl (Appends-nil told))

-- memory is wanted before anything is written
pub wants_comes : (right : Bool → Outcome → List ℕ → Type 0) (told : Option (List ℕ)) → Comes right outcomes.OutOfMemory told told
wants_comes right told = inr ((stops.OutOfMemory, refl), inl (Appends-nil told))
