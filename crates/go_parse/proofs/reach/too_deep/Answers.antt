use Rattle.std.proofs.Common.{◌≡◌, ◌+◌, ◌∙◌, sym, arith}
use Rattle.go_syntax.specs.Reach.{reach}
use Rattle.go_parse.specs.Counting.{view_counts}
use Rattle.go_parse.proofs.Reaching.{reach_of, reaches_too_far, reaches_on, reaches_end}
use Rattle.go_parse.proofs.reach.too_deep.Goals as goal

pub returns-then-reach-gt-MAX_REACH : goal.returns-then-reach-gt-MAX_REACH
returns-then-reach-gt-MAX_REACH c =
    let e : reach (view_counts c.count.new.self) ≡ c.count.new.self.below_sum + c.count.new.self.top = reach_of c.count.new.self c.in_ok-count.ensures.summed in
    sym (reaches_too_far c.args.tokens.now c.loop-index.index _ (view_counts c.loop-index.counts) (view_counts c.count.new.self) c.loop-index-test.true c.in_ok-count.ensures.counted
    (omega (arith, e, c.reach.ensures, c.if-reach-gt-MAX_REACH.true))) ∙ c.loop-index.invariant.comes

pub loop-index-preserved : goal.loop-index-preserved
loop-index-preserved c =
    let e : reach (view_counts c.count.new.self) ≡ c.count.new.self.below_sum + c.count.new.self.top = reach_of c.count.new.self c.in_ok-count.ensures.summed in
    record {
      summed = c.in_ok-count.ensures.summed;
      bounded = omega (arith, c.reach.ensures, c.if-reach-gt-MAX_REACH.false);
      comes = sym (reaches_on c.args.tokens.now c.loop-index.index _ (view_counts c.loop-index.counts) (view_counts c.count.new.self) c.loop-index-test.true c.in_ok-count.ensures.counted
          (omega (arith, e, c.reach.ensures, c.if-reach-gt-MAX_REACH.false))) ∙ c.loop-index.invariant.comes;
    }

pub returns : goal.returns
returns c = sym (reaches_end c.args.tokens.now c.loop-index.index (view_counts c.loop-index.counts) c.loop-index-test.false) ∙ c.loop-index.invariant.comes
