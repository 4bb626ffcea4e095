use Rattle.std.proofs.Common.{ap, sym, ◌∙◌, ◌+◌, take}
use Rattle.std.specs.Prelude.{not, ◌&&◌, Bool}
use Rattle.typed_literals.specs.Composing.{broken_where}
use Rattle.typed_literals.specs.Structs.{are_alike, is_alike, unlike_broken}
use Rattle.typed_literals.proofs.Gathering.{reports_more}
use Rattle.typed_literals.proofs.Structures.{next_alike, next_unlike}
use Rattle.typed_literals.proofs.structs.ask_keys.Goals as goal

pub loop-element-preserved : goal.loop-element-preserved
loop-element-preserved c =
    let at = c.loop-element in
    let all = c.args.elements.now in
    let i = at.element-index in
    let x = c.element-item.result in
    let keyed = c.args.keyed in
    record {
      alike = ap (λ (b : Bool). b && c.ask_at-alike.result) at.invariant.alike
          ∙ (ap (λ (b : Bool). are_alike keyed (take i all) && b) c.ask_at-alike.ensures.told ∙ sym (next_alike keyed all i x c.loop-element-test.true c.element-item.is));
      broken = reports_more c.args.ground.now at.ground c.ask_at-alike.new.ground (unlike_broken keyed (take i all)) (broken_where x.at (not (is_alike keyed x)))
          (unlike_broken keyed (take (i + 1) all)) at.invariant.broken c.ask_at-alike.ensures.broken (next_unlike keyed all i x c.loop-element-test.true c.element-item.is);
    }
