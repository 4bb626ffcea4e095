use Rattle.std.proofs.Common.{◌≡◌, true, take}
use Rattle.ssa_runnable.specs.Tests.{all_run}
use Rattle.ssa_runnable.proofs.sites.Site.all_run.Given as goal

abbrev pub invariant-loop-instr : goal.invariant-loop-instr
invariant-loop-instr l = all_run l.self.code.now l.self.function.now (take l.instr-index l.instrs) ≡ true
