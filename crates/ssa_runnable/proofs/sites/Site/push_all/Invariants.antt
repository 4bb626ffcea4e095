use Rattle.std.proofs.Common.{◌≡◌, ◌++◌, take}
use Rattle.ssa_runnable.specs.Boxed.{boxed_all}
use Rattle.ssa_runnable.proofs.sites.Site.push_all.Given as goal

abbrev pub invariant-loop-instr : goal.invariant-loop-instr
invariant-loop-instr l =
    l.boxed.items ≡ l.initial.boxed.items ++ boxed_all l.self.code.now l.self.function.now (take l.instr-index l.instrs)
