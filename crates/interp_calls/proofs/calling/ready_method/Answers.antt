use Rattle.std.proofs.Common.{map}
use Rattle.go_value.specs.Values.{value_of}
use Rattle.interp_calls.proofs.Readied.{method_met, method_readied}
use Rattle.interp_calls.proofs.calling.ready_method.Goals as goal
use Rattle.interp_state.specs.Machines.{frame_of, machine_of}
use Rattle.interp_state.specs.States.{frames_in, looked}
use Rattle.plan_mean.specs.Calls.{passed_by_invoke}
use Rattle.plan_mean.specs.Operands.{look_at_all}

pub returns-in-Ok-clause-readied : goal.returns-in-Ok-clause-readied
returns-in-Ok-clause-readied c =
    λ w within. let chain = passed_by_invoke (map frame_of (frames_in c.args.machine.now.current)) in
    method_readied c.ready_with.result c.ready_with.new.machine w chain c.in-Ok.function c.args.method
    (value_of c.in-Ok.held) (look_at_all (machine_of c.args.machine.now) c.args.args.now)
    (looked c.args.machine.now c.args.receiver.now) (c.in-Ok.ensures w within chain) c.ready_with.ensures.readied

pub returns-in_ok-put_on_way-in-Err-clause-readied : goal.returns-in_ok-put_on_way-in-Err-clause-readied
returns-in_ok-put_on_way-in-Err-clause-readied c =
    λ w within. let chain = passed_by_invoke (map frame_of (frames_in c.args.machine.now.current)) in
    method_met c.in-Err.met c.put_on_way.new.machine w chain c.args.method
    (look_at_all (machine_of c.args.machine.now) c.args.args.now) (looked c.args.machine.now c.args.receiver.now)
    c.in_ok-put_on_way-in-Err.ensures.read (c.in-Err.ensures w within chain)
