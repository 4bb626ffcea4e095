use Rattle.std.proofs.Common.{◌≡◌, ◌∙◌, ◌<◌, ℕ, List, ap, length, subst, refl, arith}
use Rattle.cg_nodes.specs.declared.nodes.Value.{Value}
use Rattle.cg_numbers.proofs.Collecting.{extends_on, extends_self}
use Rattle.cg_sets.specs.Answering.{OfValues, Puts}
use Rattle.cg_sets.proofs.Gathering.{values_none, values_turn}
use Rattle.cg_sets.proofs.Putting.{puts_none}
use Rattle.cg_solve.specs.Tables.{row}
use Rattle.cg_sets.proofs.answers.Answers.add_values.Goals as goal

pub loop-number-init : goal.loop-number-init
loop-number-init c =
    let n = c.args.numbers.now in
    record {
      extends = extends_self n;
      values = refl;
      puts = λ made. puts_none n (row c.args.self.now.rows) (OfValues c.args.program.now n.likeness n.values.keys 0) (values_none c.args.program.now n.likeness n.values.keys);
    }

pub loop-number-preserved : goal.loop-number-preserved
loop-number-preserved c =
    let i = c.loop-number.invariant in
    let p = c.args.program.now in
    record {
      extends = extends_on i.extends c.in_ok-placed.ensures.extends;
      values = c.in_ok-placed.ensures.values ∙ i.values;
      puts = λ made. values_turn p c.args.numbers.now c.loop-number.numbers c.of_value.new.numbers c.loop-number.number (row c.args.self.now.rows) (row c.loop-number.self.rows) (row c.put.new.self.rows) c.in_ok-placed.placed (subst (λ (l : List Value). c.loop-number.number < length l) c.values-number-end.ensures c.loop-number-test.true) made i.extends i.values c.in_ok-placed.ensures.extends c.in_ok-placed.ensures.placed c.in_ok-put.ensures (i.puts made);
    }

pub returns-clause-puts : goal.returns-clause-puts
returns-clause-puts c = λ made.
    let n = c.args.numbers.now in
    let same : length c.values-number-end.result.now ≡ length n.values.keys = ap (λ (l : List Value). length l) c.values-number-end.ensures in
    let e : c.loop-number.number ≡ length n.values.keys = omega (arith, same, c.loop-number-test.false, c.loop-number.auto.number-end) in
    subst (λ (k : ℕ). Puts c.loop-number.numbers (row c.args.self.now.rows) (row c.loop-number.self.rows) (OfValues c.args.program.now n.likeness n.values.keys k)) e (c.loop-number.invariant.puts made)

pub returns-clause-extends : goal.returns-clause-extends
returns-clause-extends c = c.loop-number.invariant.extends
