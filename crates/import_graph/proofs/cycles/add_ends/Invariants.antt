use Rattle.std.proofs.Common.{◌≡◌, map, take, nat_eq}
use Rattle.indexmap.specs.IndexSet.{insert_all}
use Rattle.import_graph.proofs.cycles.add_ends.Given as goal

abbrev pub invariant-loop-edge : goal.invariant-loop-edge
invariant-loop-edge l = l.nodes.keys ≡ insert_all nat_eq l.fn.nodes.keys (map (λ edge. edge.to) (take l.edge-index l.edges))
