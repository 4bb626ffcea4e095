use Rattle.std.proofs.Common.{take}
use Rattle.typed_primaries.specs.Steps.{IsAlong}
use Rattle.typed_primaries.proofs.steps.along.Given as goal

abbrev pub invariant-loop-step : goal.invariant-loop-step
invariant-loop-step l = IsAlong l.ground.types l.initial.expr (take l.step-index l.steps) l.expr
