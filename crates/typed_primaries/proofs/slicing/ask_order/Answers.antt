use Rattle.typed_primaries.specs.Slicing.{constant_bound, pair_broken}
use Rattle.typed_primaries.proofs.Slices.{three_hold, three_reported}
use Rattle.typed_primaries.proofs.slicing.ask_order.Goals as goal

pub returns : goal.returns
returns c =
    let b = c.args.bounds.now in
    let high = pair_broken (constant_bound b.low) (constant_bound b.high) in
    let outer = pair_broken (constant_bound b.low) (constant_bound b.max) in
    let inner = pair_broken (constant_bound b.high) (constant_bound b.max) in
    record {
      holds = three_hold high outer inner c.ask_pair-high.result c.ask_pair-outer.result c.ask_pair-inner.result
          c.ask_pair-high.ensures.holds c.ask_pair-outer.ensures.holds c.ask_pair-inner.ensures.holds;
      broken = three_reported c.args.ground.now c.ask_pair-high.new.ground c.ask_pair-outer.new.ground c.ask_pair-inner.new.ground
          high outer inner c.ask_pair-high.ensures.broken c.ask_pair-outer.ensures.broken c.ask_pair-inner.ensures.broken;
    }
