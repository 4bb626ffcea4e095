use Rattle.interp_state.proofs.Turns.{made}
use Rattle.interp_state.specs.Machines.{machine_of}
use Rattle.plan_mean.specs.Step.{acts, conversion}
use Rattle.interp_values.proofs.making.convert.Goals as goal

pub returns : goal.returns
unfolding acts
returns c =
    let m = c.args.machine.now in
    made c.args.to c.converted-converted.result (conversion (machine_of m) c.args.form c.args.operand.now)
    c.give.result m
    c.converted-converted.new.machine c.give.new.self c.give.ensures c.converted-converted.ensures
