use Rattle.std.proofs.Common.{◌≡◌, ◌++◌, drop, map}
use Rattle.decl_rules.specs.Cycles.{is_incomparable}
use Rattle.decl_rules.proofs.cycles.incomparable_kinds.Given as goal

abbrev pub invariant-loop-node : goal.invariant-loop-node
invariant-loop-node l = l.marks.items ++ map (λ n. is_incomparable n.kind) (drop l.node-index l.node-items) ≡ map (λ n. is_incomparable n.kind) l.node-items
