-- What is on standard error, where other outcomes are what may be said.
use Rattle.std.proofs.Common.{ℕ, List, Option, inl, inr}
use Rattle.program_work.specs.declared.outcome.Outcome.{Outcome}
use Rattle.program_work.specs.declared.outcome.Outcome.TheVariants as outcomes
use Rattle.driver.specs.Reporting.{Reports, StopsInLine}

stops_as :
    (P Q : Outcome → Type 0) (old new : Option (List ℕ))
    → ((outcome : Outcome) → P outcome → Q outcome) → StopsInLine P old new → StopsInLine Q old new
stops_as P Q old new turns s = record { outcome = s.outcome; said = turns s.outcome s.said; appends = s.appends }

pub reports_as :
    (P Q : Outcome → Type 0) (result : Outcome) (before now : ℕ) (old new : Option (List ℕ))
    → ((outcome : Outcome) → P outcome → Q outcome)
    → Reports P result before now old new → Reports Q result before now old new
reports_as P Q outcomes.Done before now old new turns r = r
reports_as P Q (outcomes.Ended ending) before now old new turns r = r
reports_as P Q (outcomes.Refused place rule) before now old new turns r = r
reports_as P Q (outcomes.Usage word) before now old new turns r = r
reports_as P Q outcomes.ReadFault before now old new turns r = r
reports_as P Q outcomes.WriteFault before now old new turns (inl whole) = inl whole
reports_as P Q outcomes.WriteFault before now old new turns (inr part) =
    inr (part.0, stops_as P Q old new turns part.1)
reports_as P Q outcomes.OutOfMemory before now old new turns r = stops_as P Q old new turns r
reports_as P Q outcomes.InternalError before now old new turns r = r
