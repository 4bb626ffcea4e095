-- Faults that are reported one list after another.
use Rattle.std.proofs.Common.{◌≡◌, List, [], ◌∷◌, ◌++◌, Option, Some, refl}
use Rattle.go_faults.specs.declared.fault.Fault.{Fault}
use Rattle.go_faults.specs.Faults.{least_with, lesser}

-- what is reported in two goes is reported in one
pub reported_after : (least : Option Fault) (first second : List Fault) → least_with least (first ++ second) ≡ least_with (least_with least first) second
reported_after least [] second = refl
reported_after least (f ∷ first) second = reported_after (Some (lesser least f)) first second

pub ruleset leasts = (reported_after)
