use Rattle.std.proofs.Common.{All, take}
use Rattle.import_graph.specs.Cycles.{IsOnCycle}
use Rattle.import_graph.proofs.cycles.first_on_cycle.Given as goal

abbrev pub invariant-loop-index : goal.invariant-loop-index
invariant-loop-index l = All (λ edge. ¬ IsOnCycle l.edges edge) (take l.index l.edges)
