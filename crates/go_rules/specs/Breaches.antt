-- Which rule an operation breaks, and at which part of it.
use Rattle.std.specs.Prelude.{◌≡◌, Result, Ok, Err}
use Rattle.go_base.specs.declared.rule.Rule.{Rule}
use Rattle.go_type.specs.declared.constants.Const.{Const}
use Rattle.go_rules.specs.declared.breach.Breach.{Breach}
use Rattle.go_rules.specs.declared.breach.Part.TheVariants as part
use Rattle.go_rules.specs.declared.breach.FoldError.{FoldError}
use Rattle.go_rules.specs.declared.breach.FoldError.TheVariants as error

abbrev pub whole : Rule → Breach
whole rule = record { rule = rule; part = part.Whole }

-- the only operand, or the left one
abbrev pub first : Rule → Breach
first rule = record { rule = rule; part = part.First }

abbrev pub second : Rule → Breach
second rule = record { rule = rule; part = part.Second }

-- the result is this value or this broken rule, unless memory ran out
abbrev pub Folds : Result Const FoldError → Result Const Breach → Type 0
Folds (Ok value) wanted = wanted ≡ Ok value
Folds (Err (error.Broken breach)) wanted = wanted ≡ Err breach
Folds (Err error.OutOfMemory) wanted = Unit {0}
