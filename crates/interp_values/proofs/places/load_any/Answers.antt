use Rattle.interp_state.proofs.Turns.{given}
use Rattle.interp_state.specs.Machines.{machine_of}
use Rattle.go_store.specs.Stores.{stored}
use Rattle.plan_mean.specs.Operands.{with_one}
use Rattle.plan_mean.specs.Step.{acts}
use Rattle.ssa_mean.specs.Places.{load}
use Rattle.interp_values.proofs.places.load_any.Goals as goal

pub returns : goal.returns
unfolding acts
returns c =
    given c.args.to c.loaded-loaded.result
    (with_one (machine_of c.args.machine.now) c.args.at.now (load (stored c.args.machine.now.store)))
    c.give.result c.args.machine.now c.give.new.self c.give.ensures c.loaded-loaded.ensures
