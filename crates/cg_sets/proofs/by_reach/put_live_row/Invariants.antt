use Rattle.std.proofs.Common.{◌≡◌, ◌++◌, map, take}
use Rattle.std.specs.List.{filter}
use Rattle.cg_sets.specs.Reaching.{is_made}
use Rattle.cg_sets.specs.Rules.{row_rule}
use Rattle.cg_sets.proofs.by_reach.put_live_row.Given as goal

abbrev pub invariant-loop-candidate : goal.invariant-loop-candidate
invariant-loop-candidate l = l.rules.items ≡ l.fn.rules.items ++ map (row_rule l.group) (filter (is_made l.marks) (take l.candidate-index l.candidates))
