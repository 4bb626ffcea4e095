-- The frames of a goroutine whose top one is known.
use Rattle.std.proofs.Common.{◌≡◌, List, [], ◌∷◌, Option, Some, None, map, reverse, ap, sym, subst}
use Rattle.std.specs.Option.{option_map_or}
use Rattle.interp_state.specs.Machines.{frame_of, goroutine_of, machine_of}
use Rattle.interp_state.specs.Turns.{IsIn}
use Rattle.interp_state.specs.declared.frames.Frame.{Frame}
use Rattle.interp_state.specs.declared.frames.Goroutine.{Goroutine}
use Rattle.interp_state.specs.declared.machine.Machine.{Machine}
use Rattle.plan_mean.specs.State as meant
use Rattle.plan_mean.specs.State.{World, with_frames}

-- the frames below the top one
abbrev pub below_of : Goroutine → List meant.Frame
below_of g = map frame_of (reverse g.below.items)

pub frames_are : (g : Goroutine) (top : Frame) → g.top ≡ Some top → (goroutine_of g).frames ≡ frame_of top ∷ below_of g
frames_are g top is =
    ap (λ (top : Option Frame). map frame_of (option_map_or (λ it. it ∷ reverse g.below.items) top [])) is

pub no_frames : (g : Goroutine) → g.top ≡ None → (goroutine_of g).frames ≡ []
no_frames g is =
    ap (λ (top : Option Frame). map frame_of (option_map_or (λ it. it ∷ reverse g.below.items) top [])) is

-- a machine with another top frame
pub with_top_is : (old new : Machine) (top : Frame) → new ≡ record old { current = record (old.current) { top = Some top } }
    → machine_of new ≡ with_frames (frame_of top ∷ below_of old.current) (machine_of old)
with_top_is old new top is = ap machine_of is

-- in whatever world a machine is, another is with other goroutines alone
pub with_current_in : (w : World) (old new : Machine) (g : Goroutine) → new ≡ record old { current = g } → IsIn w old → IsIn w new
with_current_in w old new g is within =
    subst (λ (m : Machine). IsIn w m) (sym is)
    (record { plan = within.plan; naming = within.naming; answers = within.answers; asked = within.asked })
