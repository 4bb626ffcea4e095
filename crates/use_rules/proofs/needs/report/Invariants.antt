use Rattle.std.proofs.Common.{◌≡◌, take}
use Rattle.go_faults.specs.Faults.{least_with}
use Rattle.use_rules.specs.Uses.{flag_at, unused_from}
use Rattle.use_rules.proofs.needs.report.Given as goal

abbrev pub invariant-loop-number : goal.invariant-loop-number
invariant-loop-number l =
    l.later.fault ≡ least_with l.initial.later.fault (unused_from (flag_at l.used) 0 (take l.number l.names))
