use Rattle.std.proofs.Common.{◌≡◌, ◌++◌, ℕ, flat_map, take}
use Rattle.std.specs.Prelude.{◌==◌}
use Rattle.cg_sets.specs.Answering.{class_candidate, if_so}
use Rattle.cg_solve.specs.Tables.{row}
use Rattle.cg_sets.proofs.answers.Answers.add_classes.Given as goal

abbrev pub invariant-loop-place : goal.invariant-loop-place
invariant-loop-place l = (k : ℕ) → row l.self.rows k ≡ row l.fn.self.rows k ++ if_so (l.group == k) (flat_map (class_candidate l.classes l.name) (take l.place-index l.places))
