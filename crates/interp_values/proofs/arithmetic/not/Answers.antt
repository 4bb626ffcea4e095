use Rattle.std.proofs.Common.{not}
use Rattle.go_value.specs.Values.{truth}
use Rattle.interp_state.specs.Machines.{machine_of}
use Rattle.interp_values.proofs.Looked.{one_is}
use Rattle.interp_values.proofs.Stepped.{sets_to}
use Rattle.plan_mean.specs.Operands.{with_one}
use Rattle.plan_mean.specs.Step.{acts, not_of}
use Rattle.interp_values.proofs.arithmetic.not.Goals as goal

pub returns-in-Ok : goal.returns-in-Ok
unfolding acts
returns-in-Ok c =
    sets_to c.set_truth.result c.args.to (truth (not c.in-Ok.truth)) c.args.machine.now c.set_truth.new.self
    (with_one (machine_of c.args.machine.now) c.args.operand.now not_of) c.set_truth.ensures.goes
    c.set_truth.ensures.wrote
    (one_is c.args.machine.now c.args.operand.now (truth c.in-Ok.truth) not_of c.in-Ok.ensures)
