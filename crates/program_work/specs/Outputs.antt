-- What was written of a right output: a value is right with an output, and some of that was written.
use Rattle.std.specs.Prelude.{ℕ, Bool, false, List, [], ◌⊎◌, Option, Result, Ok, Err, is_some}
use Rattle.std.specs.Io.KnownBytes.{Appends}
use Rattle.go_base.specs.Devices.{AppendsFront}
use Rattle.program_work.specs.declared.outcome.Outcome.{Outcome}
use Rattle.program_work.specs.declared.stop.Stop.{Stop}
use Rattle.program_work.specs.Stopping.{IsStop}

-- an output with which the value is right was written
pub record Finishes {A : Type 0} (right : A → List ℕ → Type 0) (value : A) (old new : Option (List ℕ)) : Type 0 where
  pub output : List ℕ
  pub is_right : right value output
  pub appends : Appends old new output

-- a front of an output with which some value is right was written
pub record StopsIn {A : Type 0} (right : A → List ℕ → Type 0) (old new : Option (List ℕ)) : Type 0 where
  pub value : A
  pub output : List ℕ
  pub is_right : right value output
  pub appends : AppendsFront old new output

-- nothing was written, or a front of a right output
abbrev pub IsUnfinished : {A : Type 0} → (A → List ℕ → Type 0) → Option (List ℕ) → Option (List ℕ) → Type 0
IsUnfinished right old new = Appends old new [] ⊎ StopsIn right old new

-- What work gives. What is right where the output is whole may say more than what is right of a front of it; a sink
-- that does not tell what it holds has none that is whole.
abbrev pub Does : {A : Type 0} → (Bool → A → List ℕ → Type 0) → Result A Stop → Option (List ℕ)
    → Option (List ℕ) → Type 0
Does right (Ok value) old new = Finishes (right (is_some old)) value old new
Does right (Err stop) old new = IsUnfinished (right false) old new

-- what a call comes to by work
abbrev pub Comes : (Bool → Outcome → List ℕ → Type 0) → Outcome → Option (List ℕ) → Option (List ℕ) → Type 0
Comes right outcome old new =
    Finishes (right (is_some old)) outcome old new ⊎ (IsStop outcome × IsUnfinished (right false) old new)
