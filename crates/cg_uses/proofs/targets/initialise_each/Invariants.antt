use Rattle.std.proofs.Common.{◌≡◌, drop, ◌++◌}
use Rattle.cg_nodes.specs.Uses.{seen_all}
use Rattle.cg_uses.specs.Settings.{setting_of}
use Rattle.cg_uses.specs.Statements.{initialises_all}
use Rattle.cg_uses.proofs.targets.initialise_each.Given as goal

abbrev pub invariant-loop-index : goal.invariant-loop-index
invariant-loop-index l = l.out.items ++ initialises_all (setting_of l.around) l.parts (drop l.index l.variables) (seen_all l.around.types.now (drop l.index l.exprs)) ≡ l.fn.out.items ++ initialises_all (setting_of l.around) l.parts l.variables (seen_all l.around.types.now l.exprs)
