use Rattle.std.proofs.Common.{◌≡◌, ◌++◌, drop}
use Rattle.init_order.specs.Groups.{edges_to}
use Rattle.init_order.proofs.edges.push_edges.Given as goal

abbrev pub invariant-loop-target : goal.invariant-loop-target
invariant-loop-target l = l.edges.items ++ edges_to l.of l.group (drop l.target-index l.targets) ≡ l.fn.edges.items ++ edges_to l.of l.group l.targets
