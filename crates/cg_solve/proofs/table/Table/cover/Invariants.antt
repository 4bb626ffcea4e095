use Rattle.std.proofs.Common.{◌≡◌, ◌-◌, ◌+◌, ℕ, vec_len}
use Rattle.cg_solve.specs.Tables.{row}
use Rattle.cg_solve.proofs.table.Table.cover.Given as goal

abbrev pub invariant-loop-alloc : goal.invariant-loop-alloc
invariant-loop-alloc g l = (k : ℕ) → row l.self k ≡ row l.fn.self k

abbrev pub decreases-loop-alloc : goal.decreases-loop-alloc
decreases-loop-alloc g l = l.key + 1 - vec_len l.self.rows
