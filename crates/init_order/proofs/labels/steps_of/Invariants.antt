use Rattle.std.proofs.Common.{◌≡◌, ◌++◌, None, drop, slice_index_or}
use Rattle.init_order.specs.Taking.{steps_of}
use Rattle.init_order.proofs.labels.steps_of.Given as goal

abbrev pub invariant-loop-group : goal.invariant-loop-group
invariant-loop-group l = l.steps.items ++ steps_of (λ g. slice_index_or l.labels g None) (drop l.group-index l.taken) ≡ steps_of (λ g. slice_index_or l.labels g None) l.taken
