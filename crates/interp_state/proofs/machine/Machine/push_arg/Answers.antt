use Rattle.interp_state.proofs.machine.Machine.push_arg.Goals as goal

pub returns-clause-read : goal.returns-clause-read
returns-clause-read c =
    record { value = c.in_ok-value.value; read = c.in_ok-value.ensures; pushed = c.in_ok-push.ensures.items }
