use Rattle.std.proofs.Common.{◌≡◌}
use Rattle.cg_numbers.specs.Numbered.{Extends}
use Rattle.cg_sets.specs.Answering.{ListsMade, OfValues, Puts}
use Rattle.cg_solve.specs.Tables.{row}
use Rattle.cg_sets.proofs.answers.Answers.add_values.Given as goal

abbrev pub invariant-loop-number : goal.invariant-loop-number
invariant-loop-number l = record {
  extends : Extends l.fn.numbers l.numbers;
  values : l.numbers.values ≡ l.fn.numbers.values;
  puts : ListsMade l.program l.fn.numbers → Puts l.numbers (row l.fn.self.rows) (row l.self.rows) (OfValues l.program l.fn.numbers.likeness l.fn.numbers.values.keys l.number);
}
