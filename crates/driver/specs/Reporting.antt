-- What is on standard error when a call is over.
use Rattle.std.specs.Prelude.{◌≡◌, ℕ, List, ◌⊎◌, Option}
use Rattle.std.specs.Io.KnownBytes.{Appends}
use Rattle.go_base.specs.Devices.{AppendsFront, HasFaulted}
use Rattle.program_work.specs.declared.outcome.Outcome.{Outcome}
use Rattle.program_work.specs.declared.outcome.Outcome.TheVariants as outcomes
use Rattle.driver.specs.Lines.{line_for}

-- a front of the line of one of some outcomes was written
pub record StopsInLine (Said : Outcome → Type 0) (old new : Option (List ℕ)) : Type 0 where
  pub outcome : Outcome
  pub said : Said outcome
  pub appends : AppendsFront old new (line_for outcome)

-- What is on standard error then: the outcome's line, but a front of the line of one of some outcomes where standard
-- error itself has failed or memory is wanted.
abbrev pub Reports : (Outcome → Type 0) → Outcome → ℕ → ℕ → Option (List ℕ) → Option (List ℕ) → Type 0
Reports Said outcomes.WriteFault before now old new =
    Appends old new (line_for outcomes.WriteFault) ⊎ (HasFaulted before now × StopsInLine Said old new)
Reports Said outcomes.OutOfMemory before now old new = StopsInLine Said old new
Reports Said outcome before now old new = Appends old new (line_for outcome)

-- what may be said in place of an outcome's line: that memory is wanted
abbrev pub IsSaidOf : Outcome → Outcome → Type 0
IsSaidOf outcome said = (said ≡ outcome) ⊎ (said ≡ outcomes.OutOfMemory)

-- What an outcome is after its line was written: another where standard error has failed or memory is wanted.
abbrev pub Becomes : ℕ → ℕ → Outcome → Outcome → Type 0
Becomes before now outcome result =
    (result ≡ outcome) ⊎ ((result ≡ outcomes.WriteFault) × HasFaulted before now) ⊎ (result ≡ outcomes.OutOfMemory)
