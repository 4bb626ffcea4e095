use Rattle.std.proofs.Common.{◌≡◌, ◌++◌, drop, flat_map}
use Rattle.decl_rules.specs.Cycles.{alias_edges, aliased}
use Rattle.decl_rules.proofs.cycles.aliased.Given as goal

abbrev pub invariant-loop-tie : goal.invariant-loop-tie
invariant-loop-tie l = l.edges.items ++ flat_map (alias_edges l.declared) (drop l.tie-index l.ties) ≡ aliased l.declared l.ties
