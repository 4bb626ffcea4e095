use Rattle.std.proofs.Common.{◌≡◌, ◌++◌}
use Rattle.decl_rules.specs.Cycles.{cycles_below}
use Rattle.decl_rules.proofs.cycles.add_cycles.Given as goal

abbrev pub invariant-loop-node : goal.invariant-loop-node
invariant-loop-node l = l.violations ≡ l.fn.violations ++ cycles_below l.nodes.list l.recursive l.selves l.node
