use Rattle.std.proofs.Common.{arith, ◌∙◌, length, ap, length-drop}
use Rattle.go_scan.proofs.RestLaws.{rest-is, value-turn}
use Rattle.go_scan.proofs.runes.interpreted_value.Goals as goal

pub loop-at-preserved : goal.loop-at-preserved
loop-at-preserved c =
    let width = c.in_ok-at.ensures.width in
    let pushed = c.in_ok-at.ensures.pushed in
    let fits = c.in_ok-at.ensures.within in
    record {
      within = omega (arith, fits, ap length (rest-is c.args.inner.now c.loop-at.at), length-drop c.loop-at.at c.args.inner.now);
      whole = c.loop-at.invariant.whole
          ∙ value-turn c.args.inner.now c.loop-at.at c.in_ok-at.field-0 c.loop-at.value.items c.push_first.new.value.items c.loop-at-test.true c.in_ok-at.ensures.least width pushed;
    }
