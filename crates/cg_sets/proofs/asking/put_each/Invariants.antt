use Rattle.std.proofs.Common.{◌≡◌, ◌++◌, map, take}
use Rattle.cg_sets.specs.Asking.{edge_to}
use Rattle.cg_sets.proofs.asking.put_each.Given as goal

abbrev pub invariant-loop-callee : goal.invariant-loop-callee
invariant-loop-callee l = l.edges.items ≡ l.fn.edges.items ++ map (edge_to l.question) (take l.callee-index l.callees)
