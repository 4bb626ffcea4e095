use Rattle.std.proofs.Common.{◌≡◌, drop, replicate, false, vec_len}
use Rattle.go_graph.specs.Silence.{placed}
use Rattle.go_graph.proofs.silence.places_of.Given as goal

abbrev pub invariant-loop-fault : goal.invariant-loop-fault
invariant-loop-fault l = record {
  size : vec_len l.marks ≡ l.fn.count;
  same : placed (drop l.fault-index l.faults) l.marks.items ≡ placed l.faults (replicate l.fn.count false);
}
