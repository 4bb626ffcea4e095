use Rattle.std.proofs.Common.{◌≡◌, map, take}
use Rattle.cg_vta.specs.Passing.{flow_rule}
use Rattle.cg_vta.proofs.passing.body_rules.Given as goal

abbrev pub invariant-loop-flow : goal.invariant-loop-flow
invariant-loop-flow l = l.rules.items ≡ map flow_rule (take l.flow-index l.flows)
