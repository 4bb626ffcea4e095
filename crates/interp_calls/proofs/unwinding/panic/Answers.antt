use Rattle.interp_calls.proofs.Calls.{as_said}
use Rattle.interp_calls.proofs.unwinding.panic.Goals as goal
use Rattle.interp_state.specs.Machines.{machine_of}
use Rattle.go_value.specs.Values.{value_of}
use Rattle.plan_mean.specs.Operands.{look}
use Rattle.plan_mean.specs.State.{where_there}
use Rattle.plan_mean.specs.Unwinding.{panics_with}
use Rattle.std.proofs.Common.{ap}

pub returns-in-Ok : goal.returns-in-Ok
returns-in-Ok c =
    as_said c.panic_with.result c.args.machine.now c.panic_with.new.self
    (λ w. where_there (panics_with w (machine_of c.args.machine.now))
    (look (machine_of c.args.machine.now) c.args.value.now))
    (λ w. panics_with w (machine_of c.args.machine.now) (value_of c.in-Ok.value))
    (λ w within. ap (where_there (panics_with w (machine_of c.args.machine.now))) c.in-Ok.ensures) c.panic_with.ensures
