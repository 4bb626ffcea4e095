use Rattle.std.proofs.Common.{◌≡◌, ◌≤◌, ◌+◌, drop}
use Rattle.go_syntax.specs.Reach.{reach_index, too_deep_from}
use Rattle.go_parse.specs.Counting.{view_counts, IsSummed}
use Rattle.go_parse.proofs.reach.too_deep.Given as goal

abbrev pub invariant-loop-index : goal.invariant-loop-index
invariant-loop-index l = record {
  summed : IsSummed l.counts;
  bounded : l.counts.below_sum + l.counts.top ≤ 400;
  comes : too_deep_from l.index (view_counts l.counts) (drop l.index l.fn.tokens) ≡ reach_index l.fn.tokens;
}
