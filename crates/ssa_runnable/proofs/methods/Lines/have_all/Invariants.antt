use Rattle.std.proofs.Common.{◌≡◌, true, take}
use Rattle.std.specs.List.{list_all}
use Rattle.ssa_runnable.specs.Runnable.{has_method}
use Rattle.ssa_runnable.proofs.methods.Lines.have_all.Given as goal

abbrev pub invariant-loop-method : goal.invariant-loop-method
invariant-loop-method l = list_all (has_method l.self.code.now l.of) (take l.method-index l.methods) ≡ true
