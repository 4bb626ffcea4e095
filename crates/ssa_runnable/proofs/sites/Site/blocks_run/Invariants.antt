use Rattle.std.proofs.Common.{◌≡◌, true, take}
use Rattle.ssa_runnable.specs.Tests.{blocks_run}
use Rattle.ssa_runnable.proofs.sites.Site.blocks_run.Given as goal

abbrev pub invariant-loop-block : goal.invariant-loop-block
invariant-loop-block l = blocks_run l.self.code.now l.self.function.now (take l.block-index l.blocks) ≡ true
