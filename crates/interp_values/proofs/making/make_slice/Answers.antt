use Rattle.go_store.specs.Stores.{stored}
use Rattle.go_value.specs.Values.{value_of}
use Rattle.interp_state.proofs.Turns.{made}
use Rattle.interp_state.specs.Machines.{machine_of}
use Rattle.plan_mean.specs.Step.{with_integers}
use Rattle.ssa_mean.specs.Making as making
use Rattle.interp_values.proofs.making.make_slice.Goals as goal

pub returns : goal.returns
returns c =
    let m = c.args.machine.now in
    made c.args.to c.made_slice-made.result
    (with_integers (machine_of m) c.args.len.now c.args.cap.now
    (making.made_slice c.args.leaves (stored m.store) (value_of c.args.zero.now))) c.give.result m
    c.made_slice-made.new.machine c.give.new.self c.give.ensures c.made_slice-made.ensures
