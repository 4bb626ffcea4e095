use Rattle.std.proofs.Common.{◌≡◌, drop, ◌++◌}
use Rattle.cg_uses.specs.Settings.{setting_of}
use Rattle.cg_uses.specs.Statements.{in_targets}
use Rattle.cg_uses.proofs.targets.in_targets.Given as goal

abbrev pub invariant-loop-target : goal.invariant-loop-target
invariant-loop-target l = l.out.items ++ in_targets (setting_of l.around) (drop l.target-index l.targets) ≡ l.fn.out.items ++ in_targets (setting_of l.around) l.targets
