use Rattle.std.proofs.Common.{◌≡◌, ◌++◌, drop, map}
use Rattle.decl_rules.specs.Cycles.{held, holds}
use Rattle.decl_rules.proofs.cycles.holding.Given as goal

abbrev pub invariant-loop-node : goal.invariant-loop-node
invariant-loop-node l = map (λ r. r.items) l.graph.items ++ map (λ n. held n.kind) (drop l.node-index l.node-items) ≡ holds l.node-items
