use Rattle.std.proofs.Common.{◌≡◌, drop, length, replicate, false, vec_len}
use Rattle.go_graph.specs.Silence.{cycles_in}
use Rattle.go_graph.proofs.silence.cycles_of.Given as goal

abbrev pub invariant-loop-fault : goal.invariant-loop-fault
invariant-loop-fault l = record {
  size : vec_len l.marks ≡ length l.components.order.items;
  same : cycles_in l.components.of.items (drop l.fault-index l.faults) l.marks.items ≡ cycles_in l.components.of.items l.faults (replicate (length l.components.order.items) false);
}
