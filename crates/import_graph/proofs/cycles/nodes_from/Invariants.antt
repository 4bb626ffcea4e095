use Rattle.std.proofs.Common.{◌-◌, ◌^◌}
use Rattle.import_graph.proofs.Walked.{Walked}
use Rattle.import_graph.proofs.cycles.nodes_from.Given as goal

abbrev pub invariant-places : goal.invariant-places
invariant-places l = Walked l.edges l.fn.start l.place l.met.keys

abbrev pub decreases-places : goal.decreases-places
decreases-places l = 2 ^ 63 - l.place
