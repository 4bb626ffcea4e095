use Rattle.std.proofs.Common.{◌≡◌, ◌<◌, ap, length, get_or, List, arith}
use Rattle.go_base.specs.declared.ids.TypeId.{TypeId}
use Rattle.typed_parts.specs.Joining.{items_of}
use Rattle.typed_parts.proofs.Turns.{each_none}
use Rattle.typed_calls.specs.Packing.{IsPartTo}
use Rattle.typed_calls.proofs.Packs.{part_more}
use Rattle.typed_calls.proofs.packing.passed_parts.Goals as goal

pub loop-number-init : goal.loop-number-init
loop-number-init c = record {
  so_far = each_none c.args.ground.now (IsPartTo c.args.at c.args.plan c.args.signature.now) c.new.result.items c.new.ensures.items;
}

pub loop-number-preserved : goal.loop-number-preserved
loop-number-preserved c =
    let at = c.loop-number in
    let all = c.args.parts.items in
    let here = c.as_slice-part-items.result.now in
    let same : here ≡ all = c.as_slice-part-items.ensures.value in
    let long : length here ≡ length all = ap (λ (l : List TypeId). length l) same in
    let below : at.number < length all = omega (arith, c.loop-number-test.true) in
    let x : TypeId = get_or here at.number (record { number = 0 }) in
    record {
      so_far = part_more c.args.ground.now at.ground c.passed_part.new.ground c.args.at c.args.plan c.args.signature.now all at.number x (items_of at.passed)
          (items_of c.in_ok-passed.passed) c.in_ok-value.value c.target-to.result below (ap (λ (l : List TypeId). get_or l at.number (record { number = 0 })) same)
          at.invariant.so_far c.target-to.ensures c.in_ok-value.ensures c.in_ok-passed.ensures;
    }
