use Rattle.std.proofs.Common.{◌≡◌, true, take}
use Rattle.std.specs.List.{list_all}
use Rattle.ssa_runnable.specs.Runnable.{has_meaning}
use Rattle.ssa_runnable.proofs.sites.Site.all.Given as goal

abbrev pub invariant-loop-operand : goal.invariant-loop-operand
invariant-loop-operand l = list_all (has_meaning l.self.code.now) (take l.operand-index l.operands) ≡ true
