use Rattle.std.proofs.Common.{length}
use Rattle.init_order.specs.Taking.{state}
use Rattle.init_order.proofs.Counting.{untaken}
use Rattle.init_order.proofs.Whole.{GoesOn}
use Rattle.init_order.proofs.initialising.Reliance.take_all.Given as goal

abbrev pub invariant-loop-taking : goal.invariant-loop-taking
invariant-loop-taking l = GoesOn l.self l.components.of.items l.components.order.items l.edges l.labels (state l.taking)

abbrev pub decreases-loop-taking : goal.decreases-loop-taking
decreases-loop-taking l = untaken (length l.components.order.items) l.taking.taken.items
