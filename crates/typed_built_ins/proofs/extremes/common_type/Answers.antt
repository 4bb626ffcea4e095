use Rattle.std.proofs.Common.{◌≡◌, ap, sym, ◌∙◌, ◌+◌, take, arith, refl, rules}
use Rattle.typed_built_ins.proofs.Greatest.{matched_next, none_matched}
use Rattle.typed_built_ins.proofs.extremes.common_type.Goals as goal

pub loop-argument-init : goal.loop-argument-init
loop-argument-init c = record { matched = none_matched c.args.ground.now _ refl; counted = omega arith }

pub with_argument-common-requires : goal.with_argument-common-requires
with_argument-common-requires c = let one = c.loop-argument.invariant.counted in let less = c.loop-argument-test.true in search (arith, rules)

pub loop-argument-preserved : goal.loop-argument-preserved
loop-argument-preserved c =
    let at = c.loop-argument in
    record {
      matched = matched_next c.args.ground.now at.ground c.with_argument-common.new.ground c.args.arguments.now at.argument-index c.argument-item.result at.common
          c.with_argument-common.result c.loop-argument-test.true c.argument-item.is at.invariant.matched c.with_argument-common.ensures.joined;
      counted = let one = at.invariant.counted in let more = c.with_argument-common.ensures.counted in omega arith;
    }
