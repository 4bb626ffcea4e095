use Rattle.std.proofs.Common.{◌≡◌, drop}
use Rattle.tree_roles.specs.Tokens.{are_labels}
use Rattle.tree_roles.proofs.tokens.are_labels.Given as goal

abbrev pub invariant-loop-label : goal.invariant-loop-label
invariant-loop-label l = are_labels (drop l.label-index l.labels) ≡ are_labels l.labels
