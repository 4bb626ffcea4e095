use Rattle.std.proofs.Common.{◌∙◌, ap, subst, sym}
use Rattle.std.specs.Prelude.{IfErr, IfOk}
use Rattle.code_plan.specs.declared.steps.Role.{Role}
use Rattle.go_sched.specs.declared.scheduling.Point.TheVariants as point
use Rattle.interp_calls.proofs.Calls.{as_said}
use Rattle.interp_calls.proofs.Entries.{plain_admitted}
use Rattle.interp_calls.proofs.calling.admitted_by_role.Goals as goal
use Rattle.interp_calls.specs.Ways.{IsAdmitted, on_way}
use Rattle.interp_state.specs.Machines.{machine_of}
use Rattle.interp_state.specs.Turns.{Steps}
use Rattle.plan_mean.specs.Calls.{enters_role, exits}
use Rattle.plan_mean.specs.Unwinding.{is_source, switches}

pub returns-in-Exit-clause-done : goal.returns-in-Exit-clause-done
returns-in-Exit-clause-done c =
    λ entry is. as_said c.exit.result c.args.machine.now c.exit.new.machine
    (λ w. enters_role w c.args.function.now c.args.function.now.role entry (machine_of c.args.machine.now))
    (λ w. exits (machine_of c.args.machine.now) (on_way c.args.machine.now))
    (λ w within. ap (λ role. enters_role w c.args.function.now role entry (machine_of c.args.machine.now)) c.in-Exit.is
    ∙ ap (exits (machine_of c.args.machine.now)) is) c.exit.ensures

pub returns-in-Gosched-clause-done : goal.returns-in-Gosched-clause-done
returns-in-Gosched-clause-done c =
    λ entry is. as_said c.switch.result c.args.machine.now c.switch.new.machine
    (λ w. enters_role w c.args.function.now c.args.function.now.role entry (machine_of c.args.machine.now))
    (λ w. switches w point.Yield (machine_of c.args.machine.now))
    (λ w within. ap (λ role. enters_role w c.args.function.now role entry (machine_of c.args.machine.now))
    c.in-Gosched.is)
    c.switch.ensures

pub returns-in-Source-clause-admitted : goal.returns-in-Source-clause-admitted
returns-in-Source-clause-admitted c =
    λ entry is. subst (λ (role : Role). IfOk c.admitted_source.result (λ it. IsAdmitted it.now entry c.args.machine.now
    c.admitted_source.new.machine (λ w. enters_role w c.args.function.now role entry (machine_of c.args.machine.now))))
    (sym c.in-Source.is) (c.admitted_source.ensures.admitted entry)

pub returns-in-Source-clause-done : goal.returns-in-Source-clause-done
returns-in-Source-clause-done c =
    λ entry is. subst (λ (role : Role). IfErr c.admitted_source.result (λ turn. Steps turn c.args.machine.now
    c.admitted_source.new.machine (λ w. enters_role w c.args.function.now role entry (machine_of c.args.machine.now))))
    (sym c.in-Source.is) (c.admitted_source.ensures.done entry)

pub returns-in-Wrapper-clause-admitted : goal.returns-in-Wrapper-clause-admitted
returns-in-Wrapper-clause-admitted c =
    λ entry is. plain_admitted c.args.function.now entry c.args.machine.now (ap is_source c.in-Wrapper.is)
    (λ w. ap (λ role. enters_role w c.args.function.now role entry (machine_of c.args.machine.now)) c.in-Wrapper.is)

pub returns-in-Init-clause-admitted : goal.returns-in-Init-clause-admitted
returns-in-Init-clause-admitted c =
    λ entry is. plain_admitted c.args.function.now entry c.args.machine.now (ap is_source c.in-Init.is)
    (λ w. ap (λ role. enters_role w c.args.function.now role entry (machine_of c.args.machine.now)) c.in-Init.is)
