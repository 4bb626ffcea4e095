use Rattle.std.proofs.Common.{◌≡◌, ◌++◌, ℕ, take}
use Rattle.std.specs.Prelude.{◌==◌}
use Rattle.cg_solve.specs.Tables.{row}
use Rattle.cg_sets.specs.Asking.{if_so, functions_in}
use Rattle.cg_sets.proofs.asking.put_found.Given as goal

abbrev pub invariant-loop-number : goal.invariant-loop-number
invariant-loop-number l = (k : ℕ) → row l.given k ≡ row l.fn.given k ++ if_so (l.answer == k) (functions_in (take l.number-index l.found))
