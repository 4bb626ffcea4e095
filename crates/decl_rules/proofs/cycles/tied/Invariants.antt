use Rattle.std.proofs.Common.{◌≡◌, ◌++◌, drop, flat_map}
use Rattle.decl_rules.specs.Cycles.{tie_edges, tied}
use Rattle.decl_rules.proofs.cycles.tied.Given as goal

abbrev pub invariant-loop-tie : goal.invariant-loop-tie
invariant-loop-tie l = l.edges.items ++ flat_map (tie_edges l.declared l.facts) (drop l.tie-index l.ties) ≡ tied l.declared l.ties l.facts
