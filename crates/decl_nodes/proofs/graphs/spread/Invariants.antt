use Rattle.std.proofs.Common.{◌≡◌, ◌++◌, map, drop}
use Rattle.go_graph.specs.Marks.{marked}
use Rattle.decl_nodes.proofs.graphs.spread.Given as goal

abbrev pub invariant-loop-component : goal.invariant-loop-component
invariant-loop-component l = l.marks.items ++ map (marked l.flags) (drop l.component-index l.of) ≡ map (marked l.flags) l.of
