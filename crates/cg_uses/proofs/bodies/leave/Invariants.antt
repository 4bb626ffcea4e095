use Rattle.std.proofs.Common.{◌≡◌, drop, ◌++◌}
use Rattle.cg_nodes.specs.Places.{each_from}
use Rattle.cg_uses.specs.Bodies.{leaves}
use Rattle.cg_uses.specs.Settings.{setting_of}
use Rattle.cg_uses.proofs.bodies.leave.Given as goal

abbrev pub invariant-loop-index : goal.invariant-loop-index
invariant-loop-index l = l.out.items ++ each_from (leaves (setting_of l.around)) l.index (drop l.index l.results) ≡ l.fn.out.items ++ each_from (leaves (setting_of l.around)) 0 l.results
