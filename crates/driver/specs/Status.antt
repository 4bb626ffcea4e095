-- The exit status for each outcome.
use Rattle.std.specs.Prelude.{ℕ}
use Rattle.go_base.specs.declared.ending.Ending.{Ending}
use Rattle.go_base.specs.declared.ending.Ending.TheVariants.{Exited, Panicked, Deadlock, StackOverflow, Bound}
use Rattle.program_work.specs.declared.outcome.Outcome.{Outcome}
use Rattle.program_work.specs.declared.outcome.Outcome.TheVariants as outcomes

abbrev pub status_of_ending : Ending → ℕ
status_of_ending (Exited status) = status
status_of_ending (Panicked text) = 2
status_of_ending Deadlock = 2
status_of_ending StackOverflow = 2
status_of_ending Bound = 3

abbrev pub status_of : Outcome → ℕ
status_of outcomes.Done = 0
status_of (outcomes.Ended ending) = status_of_ending ending
status_of (outcomes.Refused place rule) = 1
status_of (outcomes.Usage word) = 2
status_of outcomes.ReadFault = 4
status_of outcomes.WriteFault = 5
status_of outcomes.OutOfMemory = 6
status_of outcomes.InternalError = 7
