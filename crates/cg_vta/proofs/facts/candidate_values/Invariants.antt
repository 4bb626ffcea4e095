use Rattle.std.proofs.Common.{◌<◌, ℕ}
use Rattle.cg_sets.specs.declared.candidates.Candidate.{Candidate}
use Rattle.cg_solve.specs.Lists.{Has}
use Rattle.cg_solve.specs.Tables.{row}
use Rattle.cg_vta.specs.Facts.{value_in}
use Rattle.cg_vta.proofs.facts.candidate_values.Given as goal

abbrev pub invariant-loop-group : goal.invariant-loop-group
invariant-loop-group l = (g : ℕ) (c : Candidate) (k : ℕ) → g < l.group → Has (row l.all.rows g) c → Has (value_in c) k → Has l.values.items k
