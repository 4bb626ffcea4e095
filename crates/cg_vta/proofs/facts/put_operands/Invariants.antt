use Rattle.std.proofs.Common.{◌<◌, ℕ}
use Rattle.cg_sets.specs.declared.candidates.Candidate.{Candidate}
use Rattle.cg_solve.specs.Lists.{Has}
use Rattle.cg_solve.specs.Tables.{row}
use Rattle.cg_vta.specs.Facts.{operands}
use Rattle.cg_vta.proofs.facts.put_operands.Given as goal

abbrev pub invariant-loop-group : goal.invariant-loop-group
invariant-loop-group l = record {
  kept : (k : ℕ) → Has l.fn.nodes.items k → Has l.nodes.items k;
  whole : (g : ℕ) (c : Candidate) (k : ℕ) → g < l.group → Has (row l.all.rows g) c → Has (operands c) k → Has l.nodes.items k;
}
