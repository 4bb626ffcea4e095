use Rattle.std.proofs.Common.{◌≡◌, drop, false, length, replicate}
use Rattle.decl_rules.specs.Cycles.{lengths_marked}
use Rattle.decl_rules.proofs.cycles.with_lengths.Given as goal

abbrev pub invariant-loop-node : goal.invariant-loop-node
invariant-loop-node l = lengths_marked l.order.of.items (drop l.node-index l.node-items) l.marks.items ≡ lengths_marked l.order.of.items l.node-items (replicate (length l.order.nodes.items) false)
