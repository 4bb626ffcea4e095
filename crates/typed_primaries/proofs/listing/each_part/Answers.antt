use Rattle.std.proofs.Common.{◌∙◌, ap, length}
use Rattle.typed_parts.proofs.Turns.{each_none}
use Rattle.typed_primaries.specs.Listing.{IsPartInto}
use Rattle.typed_primaries.proofs.Lists.{one_more, parts_more}
use Rattle.typed_primaries.proofs.listing.each_part.Goals as goal

pub loop-of-init : goal.loop-of-init
loop-of-init c = record {
  so_far = each_none c.args.ground.now (IsPartInto c.args.at c.args.targets.now) c.new-made.result.items c.new-made.ensures.items;
  many = ap length c.new-made.ensures.items;
}

pub loop-of-preserved : goal.loop-of-preserved
loop-of-preserved c =
    let at = c.loop-of in
    record {
      so_far = parts_more c.args.ground.now at.ground c.part_into.new.ground c.args.at c.args.targets.now c.args.parts.now at.of-index c.len-number.result
          _ c.target_at.result at.made.items c.push.new.self.items c.in_ok-part.part c.loop-of-test.true (c.len-number.ensures ∙ (at.made.ok.0 ∙ at.invariant.many))
          c.target_at.ensures at.invariant.so_far c.in_ok-part.ensures c.in_ok-push.ensures.items;
      many = one_more at.made.items c.push.new.self.items c.in_ok-part.part at.of-index at.invariant.many c.in_ok-push.ensures.items;
    }
