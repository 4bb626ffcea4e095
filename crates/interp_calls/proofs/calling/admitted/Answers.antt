use Rattle.interp_calls.proofs.Calls.{as_said}
use Rattle.interp_calls.proofs.Entries.{admitted_as, if_err, if_ok, near, too_far}
use Rattle.interp_calls.proofs.calling.admitted.Goals as goal
use Rattle.interp_state.specs.Machines.{machine_of}
use Rattle.plan_mean.specs.Calls.{enters, enters_role}

pub returns-then-chain-gt-MAX_CHAIN-clause-done : goal.returns-then-chain-gt-MAX_CHAIN-clause-done
returns-then-chain-gt-MAX_CHAIN-clause-done c =
    λ entry of_it chained on. too_far c.end.result c.args.machine.now c.end.new.self entry c.args.number c.args.chain
    c.in-Ok.function.now of_it chained c.in-Ok.ensures c.if-chain-gt-MAX_CHAIN.true c.end.ensures.ends
    c.end.ensures.ending

pub returns-clause-admitted : goal.returns-clause-admitted
returns-clause-admitted c =
    λ entry of_it chained on. if_ok c.admitted_by_role.result
    (λ it h. admitted_as it.now entry c.args.machine.now c.admitted_by_role.new.machine
    (λ w. enters w entry (machine_of c.args.machine.now))
    (λ w. enters_role w c.in-Ok.function.now c.in-Ok.function.now.role entry (machine_of c.args.machine.now))
    (λ w within. near w c.args.machine.now entry c.args.number c.args.chain c.in-Ok.function.now of_it chained
    c.in-Ok.ensures c.if-chain-gt-MAX_CHAIN.false within) h) (c.admitted_by_role.ensures.admitted entry on)

pub returns-clause-done : goal.returns-clause-done
returns-clause-done c =
    λ entry of_it chained on. if_err c.admitted_by_role.result
    (λ turn h. as_said turn c.args.machine.now c.admitted_by_role.new.machine
    (λ w. enters w entry (machine_of c.args.machine.now))
    (λ w. enters_role w c.in-Ok.function.now c.in-Ok.function.now.role entry (machine_of c.args.machine.now))
    (λ w within. near w c.args.machine.now entry c.args.number c.args.chain c.in-Ok.function.now of_it chained
    c.in-Ok.ensures c.if-chain-gt-MAX_CHAIN.false within) h) (c.admitted_by_role.ensures.done entry on)
