use Rattle.std.proofs.Common.{◌∙◌, ap, refl, sym}
use Rattle.std.specs.Prelude.{option_copied, slice_get}
use Rattle.interp_calls.proofs.Frames.{framed, new_is, ok_then}
use Rattle.interp_calls.proofs.calling.push_frame.Goals as goal

pub returns-in_default-clause-others : goal.returns-in_default-clause-others
returns-in_default-clause-others c = refl

pub returns-clause-framed : goal.returns-clause-framed
returns-clause-framed c =
    λ room. ok_then c.push.result
    (framed c.args.function.now c.args.manner c.args.machine.now c.in-Some.first.now _ c.push.new.self room
    (ap (λ blocks. slice_get blocks 0) (sym c.deref.ensures.value) ∙ sym c.first.ensures.value
    ∙ ap option_copied c.in-Some.is)
    c.push.ensures.sources c.push.ensures.others
    (new_is c.args.function.now c.args.manner c.as_slice.result.now c.in-Some.first.now.steps.items c.new.result.items
    c.as_slice.ensures.value c.new.ensures.items)) c.push.ensures.frames

pub returns-clause-others : goal.returns-clause-others
returns-clause-others c = refl
