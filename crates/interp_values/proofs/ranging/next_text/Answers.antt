use Rattle.std.proofs.Common.{refl}
use Rattle.interp_values.proofs.Turned.{steps_turn}
use Rattle.plan_mean.specs.Step.{acts}
use Rattle.interp_values.proofs.ranging.next_text.Goals as goal

pub returns-in-Ok : goal.returns-in-Ok
unfolding acts
returns-in-Ok c =
    steps_turn c.args.range c.args.to c.in-Ok.turn _ c.args.machine.now c.text_turn.new.machine c.set.new.self _
    c.in-Ok.ensures
    refl c.set.ensures
