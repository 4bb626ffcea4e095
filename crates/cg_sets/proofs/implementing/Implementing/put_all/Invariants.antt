use Rattle.std.proofs.Common.{◌≡◌, ◌++◌, ℕ, take}
use Rattle.std.specs.Prelude.{◌==◌}
use Rattle.cg_sets.specs.Implementing.{if_so}
use Rattle.cg_solve.specs.Tables.{row}
use Rattle.cg_sets.proofs.implementing.Implementing.put_all.Given as goal

abbrev pub invariant-loop-class : goal.invariant-loop-class
invariant-loop-class l = record {
  same : l.self.interfaces ≡ l.fn.self.interfaces;
  rows : (k : ℕ) → row l.self.classes k ≡ row l.fn.self.classes k ++ if_so (l.place == k) (take l.class-index l.classes);
}
