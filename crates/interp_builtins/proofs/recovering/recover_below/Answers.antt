use Rattle.std.proofs.Common.{List, refl, subst, sym, ◌∙◌}
use Rattle.interp_builtins.proofs.Recovered.{acts_here, acts_on_none}
use Rattle.interp_builtins.proofs.Woken.{found_at}
use Rattle.interp_builtins.specs.Recovered.{AreWrappers}
use Rattle.interp_state.specs.declared.frames.Frame.{Frame}
use Rattle.interp_builtins.proofs.recovering.recover_below.Goals as goal

pub returns-in-Some-get_mut-clause-value : goal.returns-in-Some-get_mut-clause-value
returns-in-Some-get_mut-clause-value c =
    let below = c.args.machine.now.current.below in
    let it = c.in-Some-get_mut.frame.now in
    c.recover_in.ensures.value
    ∙ sym (acts_here below.items _ c.in-Some.place it c.recover_in.new.frame c.as_slice.ensures.value
    c.in-Some.ensures.some
    c.in-Some.ensures.plain
    (found_at below c.in-Some.place it (c.in-Some-get_mut.ensures.variant.0 refl) c.in-Some-get_mut.ensures.value)
    c.recover_in.ensures.frame).1

pub returns-in-Some-get_mut-clause-frames : goal.returns-in-Some-get_mut-clause-frames
returns-in-Some-get_mut-clause-frames c =
    let below = c.args.machine.now.current.below in
    let it = c.in-Some-get_mut.frame.now in
    (acts_here below.items _ c.in-Some.place it c.recover_in.new.frame c.as_slice.ensures.value c.in-Some.ensures.some
    c.in-Some.ensures.plain
    (found_at below c.in-Some.place it (c.in-Some-get_mut.ensures.variant.0 refl) c.in-Some-get_mut.ensures.value)
    c.recover_in.ensures.frame).0

pub returns-in-None-clause-value : goal.returns-in-None-clause-value
returns-in-None-clause-value c =
    sym (acts_on_none c.args.machine.now.current.below.items
    (subst (λ (them : List Frame). AreWrappers them) c.as_slice.ensures.value c.in-None.ensures.none)).1

pub returns-in-None-clause-frames : goal.returns-in-None-clause-frames
returns-in-None-clause-frames c =
    sym (acts_on_none c.args.machine.now.current.below.items
    (subst (λ (them : List Frame). AreWrappers them) c.as_slice.ensures.value c.in-None.ensures.none)).0
