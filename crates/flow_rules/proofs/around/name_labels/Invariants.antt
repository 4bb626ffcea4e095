use Rattle.std.proofs.Common.{◌≡◌, ◌++◌, map, take, drop}
use Rattle.flow_rules.specs.Surroundings.{named}
use Rattle.flow_rules.proofs.around.name_labels.Given as goal

abbrev pub invariant-loop-label : goal.invariant-loop-label
invariant-loop-label l = l.labels ≡ map (named l.name) (take l.label-index l.fn.labels) ++ drop l.label-index l.fn.labels
