use Rattle.std.proofs.Common.{◌≡◌, drop, ◌++◌}
use Rattle.cg_nodes.specs.Places.{each_from}
use Rattle.cg_uses.specs.Bodies.{enters}
use Rattle.cg_uses.specs.Settings.{setting_of}
use Rattle.cg_uses.proofs.bodies.enter.Given as goal

abbrev pub invariant-loop-index : goal.invariant-loop-index
invariant-loop-index l = l.out.items ++ each_from (enters (setting_of l.around)) l.index (drop l.index l.params) ≡ l.fn.out.items ++ each_from (enters (setting_of l.around)) 0 l.params
