use Rattle.go_graph.specs.Silence.{AreSilencedBelow}
use Rattle.go_graph.proofs.silence.first_by_marks.Given as goal

abbrev pub invariant-faults : goal.invariant-faults
invariant-faults l = AreSilencedBelow l.of l.below l.cyclic l.cycles l.faults l.index
