use Rattle.std.proofs.Common.{◌≡◌}
use Rattle.init_order.specs.Groups.{below}
use Rattle.init_order.proofs.initialising.numbers.Given as goal

abbrev pub invariant-loop-number : goal.invariant-loop-number
invariant-loop-number l = l.numbers.items ≡ below l.number
