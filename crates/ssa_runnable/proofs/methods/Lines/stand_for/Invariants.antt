use Rattle.std.proofs.Common.{take}
use Rattle.std.specs.List.{All}
use Rattle.ssa_runnable.specs.Methods.{HasAll}
use Rattle.ssa_runnable.proofs.methods.Lines.stand_for.Given as goal

abbrev pub invariant-loop-of : goal.invariant-loop-of
invariant-loop-of l = All (HasAll l.self.code.now l.interface l.methods) (take l.of-index l.types)
