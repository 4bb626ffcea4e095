use Rattle.std.proofs.Common.{◌≡◌, ℕ, ◌++◌, flat_map, drop}
use Rattle.cg_solve.specs.Tables.{row}
use Rattle.cg_solve.specs.LeastSets.{premise}
use Rattle.cg_solve.proofs.solving.index.Given as goal

abbrev pub invariant-loop-rule : goal.invariant-loop-rule
invariant-loop-rule l = (k : ℕ) → row l.table k ++ flat_map (premise k) (drop l.rule-index l.rules) ≡ flat_map (premise k) l.rules
