use Rattle.std.proofs.Common.{arith, sym, ◌∙◌, ap, length, length-drop}
use Rattle.go_scan.specs.Reading.{reading, view_item}
use Rattle.go_scan.proofs.RestLaws.{rest-is, IsCounted, count-turn}
use Rattle.go_scan.proofs.faults.count_items.Goals as goal

pub loop-at-preserved : goal.loop-at-preserved
loop-at-preserved c =
    let it = c.in-Some.item in
    let turn : IsCounted (reading c.args.how) c.args.text.now c.loop-at.at it.width =
    count-turn (reading c.args.how) c.args.text.now c.loop-at.at (view_item it) c.loop-at-test.true c.in-Some.ensures.within.0 (sym c.in-Some.ensures.value) in
    let fits = c.in-Some.ensures.within in
    record {
      within = omega (arith, fits.1, ap length (rest-is c.args.text.now c.loop-at.at), length-drop c.loop-at.at c.args.text.now);
      fewer = omega (arith, fits.0);
      bad = c.loop-at.invariant.bad ∙ turn.bad;
      counted = omega (arith, turn.count);
    }
