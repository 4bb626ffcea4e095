use Rattle.go_tree.specs.declared.program.Program.{Program}
use Rattle.cg_sets.specs.Answering.{OfGroups, Puts}
use Rattle.cg_sets.specs.Classes.{AreClasses}
use Rattle.cg_sets.specs.Implementing.{AreFound}
use Rattle.cg_solve.specs.Tables.{row}
use Rattle.cg_sets.proofs.answers.Answers.add_selected.Given as goal

abbrev pub invariant-loop-number : goal.invariant-loop-number
invariant-loop-number l = record {
  found : (p : Program) → AreClasses p l.numbers l.classes → AreFound p l.numbers l.classes l.implementing;
  puts : (p : Program) → AreClasses p l.numbers l.classes → Puts l.numbers (row l.fn.self.rows) (row l.self.rows) (OfGroups p l.numbers.likeness l.numbers.groups.keys l.number);
}
