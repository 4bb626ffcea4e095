-- The line on standard error for each outcome.
use Rattle.std.specs.Prelude.{ℕ, List, [], ◌∷◌, ◌++◌, codes, decimal}
use Rattle.go_base.specs.declared.place.Place.{Place}
use Rattle.go_base.specs.declared.rule.Rule.{Rule}
use Rattle.go_base.specs.declared.ending.Ending.{Ending}
use Rattle.go_base.specs.declared.ending.Ending.TheVariants.{Exited, Panicked, Deadlock, StackOverflow, Bound}
use Rattle.go_base.specs.Rules.{code_of, text_of}
use Rattle.program_work.specs.declared.outcome.Outcome.{Outcome}
use Rattle.program_work.specs.declared.outcome.Outcome.TheVariants as outcomes

abbrev pub line : List ℕ → List ℕ
line text = text ++ 10 ∷ []

abbrev pub refused_line : Place → Rule → List ℕ
refused_line place rule =
    line (place.path ++ codes ":" ++ decimal place.line ++ codes ":" ++ decimal place.column ++ codes ": "
    ++ text_of rule ++ codes " (" ++ code_of rule ++ codes ")")

abbrev pub usage_line : List ℕ → List ℕ
usage_line word = line (codes "ssadump: bad command line at " ++ 34 ∷ word ++ 34 ∷ [])

abbrev pub panic_line : List ℕ → List ℕ
panic_line value = line (codes "panic: " ++ value)

abbrev pub ending_line : Ending → List ℕ
ending_line (Exited status) = []
ending_line (Panicked text) = panic_line text
ending_line Deadlock = line (codes "fatal error: all goroutines are asleep - deadlock!")
ending_line StackOverflow = line (codes "fatal error: stack overflow")
ending_line Bound = line (codes "bound reached")

abbrev pub line_for : Outcome → List ℕ
line_for outcomes.Done = []
line_for (outcomes.Ended ending) = ending_line ending
line_for (outcomes.Refused place rule) = refused_line place rule
line_for (outcomes.Usage word) = usage_line word
line_for outcomes.ReadFault = line (codes "ssadump: read fault")
line_for outcomes.WriteFault = line (codes "ssadump: write fault")
line_for outcomes.OutOfMemory = line (codes "ssadump: out of memory")
line_for outcomes.InternalError = line (codes "ssadump: internal error")
