use Rattle.std.proofs.Common.{◌≡◌, ◌++◌, map, drop}
use Rattle.decl_nodes.specs.Violated.{fault_of}
use Rattle.decl_nodes.proofs.violations.faults_of.Given as goal

abbrev pub invariant-loop-item : goal.invariant-loop-item
invariant-loop-item l = l.faults.items ++ map fault_of (drop l.item-index l.items) ≡ map fault_of l.items
