use Rattle.typed_primaries.specs.Slicing.{constant_bound, past_broken}
use Rattle.typed_primaries.proofs.Slices.{three_hold, three_reported}
use Rattle.typed_primaries.proofs.slicing.ask_within.Goals as goal

pub returns : goal.returns
returns c =
    let b = c.args.bounds.now in
    let low = past_broken c.args.len (constant_bound b.low) in
    let high = past_broken c.args.len (constant_bound b.high) in
    let max = past_broken c.args.len (constant_bound b.max) in
    record {
      holds = three_hold low high max c.ask_bound-low.result c.ask_bound-high.result c.ask_bound-max.result
          c.ask_bound-low.ensures.holds c.ask_bound-high.ensures.holds c.ask_bound-max.ensures.holds;
      broken = three_reported c.args.ground.now c.ask_bound-low.new.ground c.ask_bound-high.new.ground c.ask_bound-max.new.ground
          low high max c.ask_bound-low.ensures.broken c.ask_bound-high.ensures.broken c.ask_bound-max.ensures.broken;
    }
