use Rattle.std.proofs.Common.{◌≡◌, ◌++◌, drop}
use Rattle.decl_rules.specs.Cycles.{declared_edges}
use Rattle.decl_rules.proofs.cycles.declared_as.Given as goal

abbrev pub invariant-loop-node : goal.invariant-loop-node
invariant-loop-node l = l.edges.items ++ declared_edges l.facts l.node (drop l.node l.facts) ≡ declared_edges l.facts 0 l.facts
