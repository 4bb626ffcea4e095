use Rattle.std.proofs.Common.{ℕ, ◌<◌}
use Rattle.ssa_runnable.specs.Methods.{AllHave}
use Rattle.ssa_runnable.proofs.methods.Lines.stand_everywhere.Given as goal

abbrev pub invariant-loop-number : goal.invariant-loop-number
invariant-loop-number l = (k : ℕ) → k < l.number → AllHave l.self.code.now l.types (record { number = k })
