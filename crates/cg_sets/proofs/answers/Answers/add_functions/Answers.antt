use Rattle.std.proofs.Common.{◌≡◌, ◌∙◌, length, subst, arith}
use Rattle.cg_numbers.proofs.Collecting.{extends_on, extends_self}
use Rattle.cg_sets.specs.Answering.{OfFunctions, Puts}
use Rattle.cg_sets.proofs.Gathering.{functions_none, functions_turn}
use Rattle.cg_sets.proofs.Putting.{puts_none}
use Rattle.cg_solve.specs.Tables.{row}
use Rattle.cg_sets.proofs.answers.Answers.add_functions.Goals as goal

pub loop-number-init : goal.loop-number-init
loop-number-init c =
    let n = c.args.numbers.now in
    let p = c.args.program.now in
    record {
      extends = extends_self n;
      puts = puts_none n (row c.args.self.now.rows) (OfFunctions p n.likeness 0) (functions_none p n.likeness);
    }

pub loop-number-preserved : goal.loop-number-preserved
loop-number-preserved c =
    let i = c.loop-number.invariant in
    record {
      extends = extends_on i.extends c.in_ok-placed.ensures.extends;
      puts = functions_turn c.args.program.now c.args.numbers.now.likeness c.loop-number.numbers c.of_function.new.numbers c.loop-number.number (row c.args.self.now.rows) (row c.loop-number.self.rows) (row c.put.new.self.rows) c.in_ok-placed.placed i.extends.likeness c.in_ok-placed.ensures.extends c.in_ok-placed.ensures.placed c.in_ok-put.ensures i.puts;
    }

pub returns-clause-puts : goal.returns-clause-puts
returns-clause-puts c =
    let e : c.loop-number.number ≡ length c.args.program.now.functions = omega arith in
    subst (λ k. Puts c.loop-number.numbers (row c.args.self.now.rows) (row c.loop-number.self.rows) (OfFunctions c.args.program.now c.args.numbers.now.likeness k)) e c.loop-number.invariant.puts

pub returns-clause-extends : goal.returns-clause-extends
returns-clause-extends c = c.loop-number.invariant.extends
