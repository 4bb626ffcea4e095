use Rattle.std.proofs.Common.{◌∙◌, ap}
use Rattle.std.specs.Prelude.{option_map}
use Rattle.go_value.specs.Values.{value_of}
use Rattle.interp_calls.proofs.Calls.{as_said, returned_is}
use Rattle.interp_calls.proofs.calling.give_results.Goals as goal
use Rattle.interp_calls.specs.Ways.{gives_back}
use Rattle.interp_state.specs.Machines.{machine_of}
use Rattle.plan_mean.specs.Calls.{returned}
use Rattle.plan_mean.specs.Operands.{look_at_all}
use Rattle.plan_mean.specs.State.{where_there}

pub returns-in-Ok : goal.returns-in-Ok
returns-in-Ok c =
    let m = machine_of c.args.machine.now in
    as_said c.leave.result c.args.machine.now c.leave.new.machine
    (λ w. where_there (λ results. returned results m.current.frames m) (look_at_all m c.args.values.now))
    (λ w. gives_back (option_map value_of c.in-Ok.value) m.current.frames m)
    (λ w within. ap (where_there (λ results. returned results m.current.frames m)) c.in-Ok.ensures.1.0
    ∙ returned_is c.in-Ok.ensures.0 m.current.frames m
    ∙ ap (λ it. gives_back it m.current.frames m) c.in-Ok.ensures.1.1) c.leave.ensures
