use Rattle.std.proofs.Common.{refl}
use Rattle.interp_values.proofs.Turned.{steps_turn}
use Rattle.interp_values.proofs.ranging.next_map.Goals as goal

pub returns-in-Ok : goal.returns-in-Ok
returns-in-Ok c =
    steps_turn c.args.range c.args.to c.in-Ok.turn _ c.args.machine.now c.map_turn.new.machine c.set.new.self _
    c.in-Ok.ensures
    refl c.set.ensures
