use Rattle.std.proofs.Common.{◌≡◌, drop, ◌++◌}
use Rattle.cg_nodes.specs.Places.{each_from}
use Rattle.cg_nodes.specs.Uses.{seen_all}
use Rattle.cg_uses.specs.Settings.{setting_of}
use Rattle.cg_uses.specs.Statements.{gives}
use Rattle.cg_uses.proofs.targets.give_each.Given as goal

abbrev pub invariant-loop-index : goal.invariant-loop-index
invariant-loop-index l = l.out.items ++ each_from (gives (setting_of l.around) l.parts) l.index (seen_all l.around.types.now (drop l.index l.exprs)) ≡ l.fn.out.items ++ each_from (gives (setting_of l.around) l.parts) 0 (seen_all l.around.types.now l.exprs)
