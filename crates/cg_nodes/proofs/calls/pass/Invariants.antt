use Rattle.std.proofs.Common.{◌≡◌, drop, ◌++◌}
use Rattle.cg_nodes.specs.Passing.{into_node}
use Rattle.cg_nodes.specs.Places.{each_from}
use Rattle.cg_nodes.specs.Uses.{passes, seen_all}
use Rattle.cg_nodes.proofs.calls.pass.Given as goal

abbrev pub invariant-loop-index : goal.invariant-loop-index
invariant-loop-index l = l.out.items ++ each_from (passes l.parts (into_node l.into)) l.index (seen_all l.types (drop l.index l.exprs)) ≡ l.fn.out.items ++ each_from (passes l.parts (into_node l.into)) 0 (seen_all l.types l.exprs)
