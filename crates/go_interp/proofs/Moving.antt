-- What a step is by the state of the top frame.
use Rattle.std.proofs.Common.{◌≡◌, ◌∙◌, ◌<◌, ◌+◌, Bor, arith, min, ℕ, suc, List, ◌∷◌, Option, Some, None, ap, sym, refl, subst}
use Rattle.std.specs.Prelude.{slice_get}
use Rattle.std.specs.Slice.{IsItemAt}
use Rattle.go_interp.proofs.Phis.{item_at}
use Rattle.code_plan.specs.declared.steps.Step.{Step}
use Rattle.go_interp.proofs.Forms.{from_mid}
use Rattle.go_interp.specs.Steps.{runs}
use Rattle.interp_calls.specs.Ways.{goes_back}
use Rattle.interp_state.proofs.Tops.{below_of, frames_are, no_frames, with_current_in, with_top_is}
use Rattle.interp_state.specs.Machines.{frame_of, frame_state_of, machine_of}
use Rattle.interp_state.specs.Turns.{IsIn, Steps}
use Rattle.interp_state.specs.declared.frames.Frame.{Frame}
use Rattle.interp_state.specs.declared.frames.FrameState.{FrameState}
use Rattle.interp_state.specs.declared.frames.FrameState.TheVariants as states
use Rattle.interp_state.specs.declared.machine.Machine.{Machine}
use Rattle.interp_state.specs.declared.machine.Turn.{Turn}
use Rattle.plan_mean.specs.State as meant
use Rattle.plan_mean.specs.State.{World, with_frames}
use Rattle.plan_mean.specs.Step.{acts, begins, does, moves, step, steps_on, unwinds}

-- a goroutine without frames
pub begun : (result : Turn) (old mid new : Machine) → mid ≡ old → old.current.top ≡ None
    → Steps result mid new (λ w. begins w (machine_of mid) (machine_of mid).current.begin)
    → Steps result old new (λ w. step w (machine_of old))
unfolding step
begun result old mid new same none made =
    from_mid result old mid new (λ w. step w (machine_of old))
    (λ w. begins w (machine_of mid) (machine_of mid).current.begin)
    (λ w within. subst (λ (m : Machine). IsIn w m) (sym same) within)
    (λ w within. ap (steps_on w (machine_of old)) (no_frames old.current none)
    ∙ ap (λ (m : meant.Machine). begins w m m.current.begin) (sym (ap machine_of same))) made

does_not_run : (w : World) (m : meant.Machine) (top : meant.Frame) (below : List meant.Frame) (state : FrameState)
    → (state ≡ states.Running → ⊥) → moves w m top below (frame_state_of state) ≡ unwinds w m top below top.defers
does_not_run w m top below states.Running not = absurd (not refl)
does_not_run w m top below states.Returning not = refl
does_not_run w m top below (states.Panicking it) not = refl

-- a frame that returns or panics
pub unwinding : (result : Turn) (old mid new : Machine) (top : Frame) → mid ≡ old → old.current.top ≡ Some top
    → (top.state ≡ states.Running → ⊥)
    → Steps result mid new (λ w. goes_back w (machine_of mid) (machine_of mid).current.frames)
    → Steps result old new (λ w. step w (machine_of old))
unfolding step
unwinding result old mid new top same is not made =
    from_mid result old mid new (λ w. step w (machine_of old))
    (λ w. goes_back w (machine_of mid) (machine_of mid).current.frames)
    (λ w within. subst (λ (m : Machine). IsIn w m) (sym same) within)
    (λ w within. ap (steps_on w (machine_of old)) (frames_are old.current top is)
    ∙ does_not_run w (machine_of old) (frame_of top) (below_of old.current) top.state not
    ∙ ap (goes_back w (machine_of old)) (sym (frames_are old.current top is))
    ∙ ap (λ (m : meant.Machine). goes_back w m m.current.frames) (sym (ap machine_of same))) made

-- a frame that runs
pub running : (result : Turn) (old mid new : Machine) (top : Frame) → mid ≡ old → old.current.top ≡ Some top
    → top.state ≡ states.Running → Steps result mid new (λ w. runs w (machine_of mid) (machine_of mid).current.frames)
    → Steps result old new (λ w. step w (machine_of old))
unfolding step
running result old mid new top same is state made =
    from_mid result old mid new (λ w. step w (machine_of old))
    (λ w. runs w (machine_of mid) (machine_of mid).current.frames)
    (λ w within. subst (λ (m : Machine). IsIn w m) (sym same) within)
    (λ w within. ap (steps_on w (machine_of old)) (frames_are old.current top is)
    ∙ ap (λ state. moves w (machine_of old) (frame_of top) (below_of old.current) (frame_state_of state)) state
    ∙ ap (runs w (machine_of old)) (sym (frames_are old.current top is))
    ∙ ap (λ (m : meant.Machine). runs w m m.current.frames) (sym (ap machine_of same))) made

-- its step
pub acted : (result : Turn) (old mid new : Machine) (top : Frame) (after : ℕ) (it : Step) → old.current.top ≡ Some top
    → slice_get top.steps.now top.step ≡ Some it → after ≡ suc top.step
    → mid ≡ record old { current = record (old.current) { top = Some (record top { step = after }) } }
    → Steps result mid new (λ w. acts w (machine_of mid) it)
    → Steps result old new (λ w. runs w (machine_of old) (machine_of old).current.frames)
acted result old mid new top after it is at behind changed made =
    let moved : Frame = record top { step = after } in
    from_mid result old mid new (λ w. runs w (machine_of old) (machine_of old).current.frames) (λ w. acts w (machine_of mid) it)
    (λ w within. with_current_in w old mid (record (old.current) { top = Some moved }) changed within)
    (λ w within. ap (runs w (machine_of old)) (frames_are old.current top is)
    ∙ ap (does w (machine_of old) (frame_of top) (below_of old.current)) at
    ∙ ap (λ (n : ℕ). acts w (with_frames (frame_of (record top { step = n }) ∷ below_of old.current) (machine_of old)) it)
    (sym behind)
    ∙ ap (λ (m : meant.Machine). acts w m it) (sym (with_top_is old mid moved changed))) made

-- ---- items of slices

there : {A : Type 0} (xs : List A) (i : ℕ) (it : Bor A) → IsItemAt xs i (Some it) → slice_get xs i ≡ Some it.now
there xs i it item = item_at xs i it.now item.3.0 ∙ ap Some (sym (item.3.1 it.now))

pub stands_at : {A : Type 0} (xs : List A) (i : ℕ) (found : Option (Bor A)) (it : Bor A) → IsItemAt xs i found
    → found ≡ Some it → slice_get xs i ≡ Some it.now
stands_at {A = A} xs i found it item is =
    there xs i it (subst (λ (f : Option (Bor A)). IsItemAt xs i f) is item)

pub one_further : (i after count : ℕ) → i < count → count < 18446744073709551616
    → after ≡ min (i + 1) 18446744073709551615 → after ≡ suc i
one_further i after count within small is = omega arith
