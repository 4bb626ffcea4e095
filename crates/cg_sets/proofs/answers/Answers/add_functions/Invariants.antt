use Rattle.cg_numbers.specs.Numbered.{Extends}
use Rattle.cg_sets.specs.Answering.{OfFunctions, Puts}
use Rattle.cg_solve.specs.Tables.{row}
use Rattle.cg_sets.proofs.answers.Answers.add_functions.Given as goal

abbrev pub invariant-loop-number : goal.invariant-loop-number
invariant-loop-number l = record {
  extends : Extends l.fn.numbers l.numbers;
  puts : Puts l.numbers (row l.fn.self.rows) (row l.self.rows) (OfFunctions l.program l.fn.numbers.likeness l.number);
}
