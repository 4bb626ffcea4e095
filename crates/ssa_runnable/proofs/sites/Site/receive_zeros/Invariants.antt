use Rattle.std.proofs.Common.{◌≡◌, true, take}
use Rattle.std.specs.List.{list_all}
use Rattle.ssa_runnable.specs.Runnable.{receives_zero}
use Rattle.ssa_runnable.proofs.sites.Site.receive_zeros.Given as goal

abbrev pub invariant-loop-case : goal.invariant-loop-case
invariant-loop-case l = list_all (receives_zero l.self.code.now l.self.function.now) (take l.case-index l.cases) ≡ true
