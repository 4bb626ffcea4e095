use Rattle.std.proofs.Common.{◌∙◌, [], ap, map, sym}
use Rattle.code_plan.specs.declared.steps.Callee.TheVariants as callees
use Rattle.interp_calls.proofs.Calls.{err_readied}
use Rattle.interp_calls.proofs.calling.ready_function.Goals as goal
use Rattle.interp_calls.specs.Ways.{on_way}
use Rattle.interp_state.specs.Machines.{frame_of, machine_of}
use Rattle.interp_state.specs.States.{frames_in}
use Rattle.interp_state.specs.declared.machine.Machine.{Machine}
use Rattle.plan_mean.specs.Calls.{later, passed_on, readied}
use Rattle.plan_mean.specs.State.{of_function}
use Rattle.ssa_mean.specs.Comes.{to, where_some}

pub returns-in_err-put_on_way-clause-readied : goal.returns-in_err-put_on_way-clause-readied
returns-in_err-put_on_way-clause-readied c =
    λ w. err_readied c.from_residual.result c.put_on_way.new.machine
    (readied w (machine_of c.args.machine.now) (callees.Function c.args.function) c.args.args.now)
    c.from_residual.ensures.1

pub returns-in_err-put_on_way-clause-others : goal.returns-in_err-put_on_way-clause-others
returns-in_err-put_on_way-clause-others c = c.put_on_way.ensures.others

pub returns-clause-readied : goal.returns-clause-readied
returns-clause-readied c =
    λ w. ap (where_some (λ it. to (later (of_function c.args.function [])
    (passed_on (machine_of c.args.machine.now).current.frames) it))) c.in_ok-put_on_way.ensures.read
    ∙ ap (λ n. to (later (of_function c.args.function []) n (on_way c.put_on_way.new.machine)))
    (sym (c.chain_passed_on.ensures
    ∙ ap (λ (m : Machine). passed_on (map frame_of (frames_in m.current))) c.put_on_way.ensures.others))

pub returns-clause-others : goal.returns-clause-others
returns-clause-others c = c.put_on_way.ensures.others
