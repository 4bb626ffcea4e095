-- What the parts of a call come to.
use Rattle.std.specs.Prelude.{◌≡◌, ℕ, List, ◌⊎◌}
use Rattle.go_finding.specs.declared.error.LoadError.{LoadError}
use Rattle.go_finding.specs.declared.error.LoadError.TheVariants as errors
use Rattle.program_work.specs.declared.outcome.Outcome.{Outcome}
use Rattle.program_work.specs.declared.outcome.Outcome.TheVariants as outcomes

-- the outcome for a bad word
abbrev pub IsUsage : List ℕ → Outcome → Type 0
IsUsage word outcome = (outcome ≡ outcomes.Usage word) ⊎ (outcome ≡ outcomes.OutOfMemory)

-- the outcome where nothing was loaded
abbrev pub outcome_of : LoadError → Outcome
outcome_of (errors.Refused place rule) = outcomes.Refused place rule
outcome_of errors.ReadFault = outcomes.ReadFault
outcome_of errors.OutOfMemory = outcomes.OutOfMemory
