use Rattle.std.proofs.Common.{Err}
use Rattle.std.specs.Bool.{beq}
use Rattle.go_value.specs.Values.{truth}
use Rattle.interp_state.proofs.Turns.{given_in}
use Rattle.interp_state.specs.Machines.{machine_of}
use Rattle.interp_values.proofs.Stepped.{met_as, sets_in}
use Rattle.plan_mean.specs.Step.{acts, are_equal}
use Rattle.interp_values.proofs.arithmetic.equal.Goals as goal

pub returns-in-Ok : goal.returns-in-Ok
unfolding acts
returns-in-Ok c =
    sets_in c.set_truth.result c.args.to (truth (beq c.in-Ok.equal c.args.wanted)) c.args.machine.now
    c.set_truth.new.self
    (λ w. are_equal w (machine_of c.args.machine.now) c.args.wanted c.args.left.now c.args.right.now)
    c.set_truth.ensures.goes c.set_truth.ensures.wrote (c.in-Ok.ensures c.args.wanted)

pub returns-in-Err : goal.returns-in-Err
unfolding acts
returns-in-Err c =
    given_in c.args.to (Err c.in-Err.met)
    (λ w. are_equal w (machine_of c.args.machine.now) c.args.wanted c.args.left.now c.args.right.now)
    c.meet.result c.args.machine.now c.meet.new.self c.meet.ensures
    (λ w within. met_as (λ same. truth (beq same c.args.wanted)) c.in-Err.met
    (are_equal w (machine_of c.args.machine.now) c.args.wanted c.args.left.now c.args.right.now)
    (c.in-Err.ensures c.args.wanted w within))
