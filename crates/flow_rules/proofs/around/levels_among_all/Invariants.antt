use Rattle.std.proofs.Common.{◌≡◌, ◌+◌, length, reverse}
use Rattle.flow_rules.specs.Surroundings.{is_meant, levels_to}
use Rattle.flow_rules.proofs.Levels.{after}
use Rattle.flow_rules.proofs.around.levels_among_all.Given as goal

abbrev pub invariant-loop-last : goal.invariant-loop-last
invariant-loop-last l = record {
  size : l.levels + length l.rest ≡ length l.fn.around;
  so_far : levels_to (is_meant l.label) (reverse l.fn.around) ≡ after l.levels (levels_to (is_meant l.label) (reverse l.rest));
}

abbrev pub decreases-loop-last : goal.decreases-loop-last
decreases-loop-last l = length l.rest
