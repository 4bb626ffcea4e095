use Rattle.interp_calls.proofs.Calls.{err_ok}
use Rattle.std.proofs.Common.{◌∙◌, ap, subst, sym}
use Rattle.std.proofs.Common.{◌<◌, ℕ}
use Rattle.interp_calls.proofs.Frames.{as_found, frame_made, ok_then, others_of_frame, others_of_slots}
use Rattle.interp_calls.proofs.calling.make_frame.Goals as goal
use Rattle.interp_calls.specs.Ways.{on_way}
use Rattle.interp_state.specs.Machines.{free_of}
use Rattle.interp_state.specs.declared.machine.Machine.{Machine}

pub returns-in_err-put_bound-in-Ok-clause-others : goal.returns-in_err-put_bound-in-Ok-clause-others
returns-in_err-put_bound-in-Ok-clause-others c =
    others_of_slots c.args.machine.now c.put_arguments.new.machine c.put_bound.new.machine
    c.put_arguments.ensures.others
    c.put_bound.ensures.others

pub returns-in-Err-clause-others : goal.returns-in-Err-clause-others
returns-in-Err-clause-others c =
    as_found c.args.machine.now c.put_arguments.new.machine _ c.put_arguments.new.machine.waiting
    c.put_arguments.ensures.others

pub returns-clause-pushed : goal.returns-clause-pushed
returns-clause-pushed c =
    λ room. ok_then c.push_frame.result
    (λ framed. frame_made c.args.function.now c.args.manner (free_of c.args.bound) (on_way c.args.machine.now)
    c.args.machine.now c.put_arguments.new.machine c.put_bound.new.machine c.push_frame.new.machine
    c.in-Ok.ensures.count
    c.in-Ok.ensures.slots c.put_arguments.ensures.others c.in_ok-put_bound-in-Ok.ensures.slots
    c.put_bound.ensures.others
    framed c.push_frame.ensures.others)
    (c.push_frame.ensures.framed (λ source. subst (λ (n : ℕ). n < 4294967295)
    (sym (ap (λ (m : Machine). m.current.sources) c.put_bound.ensures.others
    ∙ ap (λ (m : Machine). m.current.sources) c.put_arguments.ensures.others)) (room source)))

pub returns-clause-others : goal.returns-clause-others
returns-clause-others c =
    others_of_frame c.args.machine.now c.put_arguments.new.machine c.put_bound.new.machine c.push_frame.new.machine
    c.put_arguments.ensures.others c.put_bound.ensures.others c.push_frame.ensures.others

pub returns-in_err-put_bound-in-Ok-clause-pushed : goal.returns-in_err-put_bound-in-Ok-clause-pushed
returns-in_err-put_bound-in-Ok-clause-pushed c = λ room. err_ok c.from_residual.result _ c.from_residual.ensures.0
