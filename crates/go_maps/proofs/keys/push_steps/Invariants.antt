use Rattle.std.proofs.Common.{◌≡◌, ◌++◌, drop}
use Rattle.go_maps.specs.Keys.{steps_code}
use Rattle.go_maps.proofs.keys.push_steps.Given as goal

abbrev pub invariant-loop-step : goal.invariant-loop-step
invariant-loop-step l = l.bytes.items ++ steps_code (drop l.step-index l.steps) ≡ l.initial.bytes.items ++ steps_code l.steps
