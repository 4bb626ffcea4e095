use Rattle.std.proofs.Common.{◌≡◌}
use Rattle.cg_numbers.proofs.Collecting.{extends_on}
use Rattle.cg_sets.proofs.Gathering.{answers_all}
use Rattle.cg_solve.specs.Tables.{row}
use Rattle.cg_sets.proofs.answers.answers_of.Goals as goal

pub returns-clause-answers : goal.returns-clause-answers
returns-clause-answers c = λ made.
    let p = c.args.program.now in
    let n3 = c.classes_of.new.numbers in
    let x = c.in_ok-add_values.ensures.extends in
    let y = c.in_ok-add_functions.ensures.extends in
    let z = c.in_ok-classes.ensures.extends in
    answers_all p c.args.numbers.now c.add_values.new.numbers c.add_functions.new.numbers n3 x y z made
    (row c.new.result) (row c.add_values.new.self.rows) (row c.add_functions.new.self.rows) (row c.add_selected.new.self.rows)
    c.new.ensures c.laws.ensures.groups (c.in_ok-add_values.ensures.puts made) c.in_ok-add_functions.ensures.puts (c.in_ok-add_selected.ensures.puts p c.in_ok-classes.ensures.classes)

pub returns-clause-extends : goal.returns-clause-extends
returns-clause-extends c = extends_on c.in_ok-add_values.ensures.extends (extends_on c.in_ok-add_functions.ensures.extends c.in_ok-classes.ensures.extends)
