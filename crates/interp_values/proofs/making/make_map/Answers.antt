use Rattle.interp_state.proofs.Turns.{made}
use Rattle.interp_state.specs.Machines.{machine_of}
use Rattle.plan_mean.specs.Step.{acts, new_map}
use Rattle.ssa_mean.specs.Comes.{to}
use Rattle.interp_values.proofs.making.make_map.Goals as goal

pub returns : goal.returns
unfolding acts
returns c =
    made c.args.to c.made_map-made.result (to (new_map (machine_of c.args.machine.now))) c.give.result
    c.args.machine.now
    c.made_map-made.new.machine c.give.new.self c.give.ensures c.made_map-made.ensures
