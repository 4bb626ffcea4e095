use Rattle.std.proofs.Common.{◌<◌, ℕ, get_or}
use Rattle.ssa_sane.specs.Checks.{HasSeen}
use Rattle.ssa_sane.specs.Sane.{IsAvailable}
use Rattle.ssa_sane.proofs.blocks.Check.has_all.Given as goal

abbrev pub invariant-loop-register : goal.invariant-loop-register
invariant-loop-register l = (index : ℕ) → HasSeen l.self.function.now l.block index l.seen → (k : ℕ) → k < l.register-index → IsAvailable l.self.function.now l.block index (get_or l.used k 0)
