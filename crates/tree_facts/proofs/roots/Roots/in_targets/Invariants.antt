use Rattle.std.proofs.Common.{◌≡◌, take}
use Rattle.tree_facts.specs.Statements.{in_targets}
use Rattle.tree_facts.specs.Search.{searched}
use Rattle.tree_facts.proofs.roots.Roots.in_targets.Given as goal

abbrev pub invariant-loop-target : goal.invariant-loop-target
invariant-loop-target l = l.self ≡ searched l.fn.self (in_targets (take l.target-index l.targets))
