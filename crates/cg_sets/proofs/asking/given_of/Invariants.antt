use Rattle.std.proofs.Common.{ℕ, take}
use Rattle.go_base.specs.declared.ids.FuncId.{FuncId}
use Rattle.cg_solve.specs.LeastSets.{IsClear, search_of}
use Rattle.cg_solve.specs.Lists.{Has}
use Rattle.cg_solve.specs.Tables.{row}
use Rattle.cg_sets.specs.Asking.{AreSound, Gives}
use Rattle.cg_sets.proofs.asking.given_of.Given as goal

abbrev pub invariant-loop-answer : goal.invariant-loop-answer
invariant-loop-answer l = record {
  clear : IsClear l.rules (search_of l.search);
  sound : AreSound l.rules (row l.given);
  whole : (answer : ℕ) → Has (take l.answer-index l.answer-items) answer → (f : FuncId) → Gives l.rules answer f → Has (row l.given answer) f;
}
