use Rattle.go_store.specs.Stores.{stored}
use Rattle.interp_state.proofs.Turns.{changed}
use Rattle.interp_state.specs.Machines.{machine_of}
use Rattle.plan_mean.specs.Operands.{with_two}
use Rattle.plan_mean.specs.Step.{acts}
use Rattle.ssa_mean.specs.Places.{assigned}
use Rattle.interp_values.proofs.places.store.Goals as goal

pub returns : goal.returns
unfolding acts
returns c =
    changed c.stored-stored.result
    (with_two (machine_of c.args.machine.now) c.args.at.now c.args.value.now
    (assigned (stored c.args.machine.now.store)))
    c.done.result c.args.machine.now c.stored-stored.new.machine c.done.new.self c.done.ensures c.stored-stored.ensures
