use Rattle.std.proofs.Common.{◌≡◌, drop}
use Rattle.go_graph.specs.Silence.{are_at_nodes}
use Rattle.go_graph.proofs.silence.have_nodes.Given as goal

abbrev pub invariant-faults : goal.invariant-faults
invariant-faults l = are_at_nodes l.count (drop l.fault-index l.faults) ≡ are_at_nodes l.count l.faults
