use Rattle.std.proofs.Common.{◌≡◌, map, take}
use Rattle.tree_facts.proofs.naming.labels.Given as goal

-- the labels of the packages before
abbrev pub invariant-loop-package : goal.invariant-loop-package
invariant-loop-package l = l.labels ≡ map (λ p. p.label) (take l.package-index l.packages)
