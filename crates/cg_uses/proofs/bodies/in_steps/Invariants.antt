use Rattle.std.proofs.Common.{◌≡◌, drop, ◌++◌}
use Rattle.std.specs.Prelude.{flat_map}
use Rattle.cg_uses.specs.Bodies.{step_uses}
use Rattle.cg_uses.specs.Settings.{setting_of}
use Rattle.cg_uses.proofs.bodies.in_steps.Given as goal

abbrev pub invariant-loop-step : goal.invariant-loop-step
invariant-loop-step l = l.out.items ++ flat_map (step_uses (setting_of l.around) l.«package») (drop l.step-index l.steps) ≡ l.fn.out.items ++ flat_map (step_uses (setting_of l.around) l.«package») l.steps
