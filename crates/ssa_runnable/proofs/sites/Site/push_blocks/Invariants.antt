use Rattle.std.proofs.Common.{◌≡◌, ◌++◌, take}
use Rattle.ssa_runnable.specs.Boxed.{boxed_blocks}
use Rattle.ssa_runnable.proofs.sites.Site.push_blocks.Given as goal

abbrev pub invariant-loop-block : goal.invariant-loop-block
invariant-loop-block l =
    l.boxed.items ≡ l.initial.boxed.items ++ boxed_blocks l.self.code.now l.self.function.now (take l.block-index l.blocks)
