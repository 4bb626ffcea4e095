use Rattle.std.proofs.Common.{◌≡◌, ℕ, List, ap, length, subst, arith}
use Rattle.cg_nodes.specs.declared.nodes.Group.{Group}
use Rattle.cg_sets.specs.Answering.{OfGroups, Puts}
use Rattle.cg_sets.proofs.Gathering.{groups_none, groups_turn}
use Rattle.cg_sets.proofs.Putting.{puts_none}
use Rattle.cg_solve.specs.Tables.{row}
use Rattle.cg_sets.proofs.answers.Answers.add_selected.Goals as goal

pub loop-number-init : goal.loop-number-init
loop-number-init c =
    let n = c.args.numbers.now in
    record {
      found = λ p classes. c.new-implementing.ensures p n c.args.classes.now;
      puts = λ p classes. puts_none n (row c.args.self.now.rows) (OfGroups p n.likeness n.groups.keys 0) (groups_none p n.likeness n.groups.keys);
    }

pub loop-number-preserved : goal.loop-number-preserved
loop-number-preserved c =
    let i = c.loop-number.invariant in
    let n = c.args.numbers.now in
    record {
      found = λ p classes. c.in_ok-add_group.ensures.found p classes (i.found p classes);
      puts = λ p classes. groups_turn p n c.loop-number.number (row c.args.self.now.rows) (row c.loop-number.self.rows) (row c.add_group.new.self.rows) (i.puts p classes) (c.in_ok-add_group.ensures.puts p classes (i.found p classes));
    }

pub returns : goal.returns
returns c = record {
  puts = λ p classes. (
      let n = c.args.numbers.now in
      let same : length c.groups-number-end.result.now ≡ length n.groups.keys = ap (λ (l : List Group). length l) c.groups-number-end.ensures in
      let e : c.loop-number.number ≡ length n.groups.keys = omega (arith, same, c.loop-number-test.false, c.loop-number.auto.number-end) in
      subst (λ (k : ℕ). Puts n (row c.args.self.now.rows) (row c.loop-number.self.rows) (OfGroups p n.likeness n.groups.keys k)) e (c.loop-number.invariant.puts p classes));
}
