use Rattle.go_sched.specs.Goroutines.{state_of}
use Rattle.interp_state.specs.Machines.{machine_of}
use Rattle.interp_values.proofs.Made.{channel_made}
use Rattle.plan_mean.specs.Operands.{with_integer}
use Rattle.plan_mean.specs.Step.{acts}
use Rattle.ssa_mean.specs.Making as making
use Rattle.interp_values.proofs.making.make_chan.Goals as goal

pub returns : goal.returns
unfolding acts
returns c =
    let m = c.args.machine.now in
    channel_made c.args.to c.made_chan-made.result
    (with_integer (machine_of m) c.args.size.now (making.made_chan c.args.leaves (state_of m.sched))) c.give.result m
    c.made_chan-made.new.machine c.give.new.self c.give.ensures c.made_chan-made.ensures
