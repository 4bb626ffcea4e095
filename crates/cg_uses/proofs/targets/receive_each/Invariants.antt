use Rattle.std.proofs.Common.{◌≡◌, drop, ◌++◌}
use Rattle.cg_nodes.specs.Places.{each_from}
use Rattle.cg_uses.specs.Settings.{setting_of}
use Rattle.cg_uses.specs.Statements.{defines_one}
use Rattle.cg_uses.proofs.targets.receive_each.Given as goal

abbrev pub invariant-loop-index : goal.invariant-loop-index
invariant-loop-index l = l.out.items ++ each_from (defines_one (setting_of l.around)) l.index (drop l.index l.targets) ≡ l.fn.out.items ++ each_from (defines_one (setting_of l.around)) 0 l.targets
