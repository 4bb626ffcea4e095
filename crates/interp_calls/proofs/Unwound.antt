-- Frames that return or panic.
use Rattle.std.proofs.Common.{◌≡◌, ◌∙◌, ℕ, List, [], ◌∷◌, ◌++◌, Option, Some, None, true, false, refl, sym, ap, map}
use Rattle.std.proofs.Common.{take, ◌-◌}
use Rattle.std.proofs.lemmas.List.{map-append}
use Rattle.std.specs.Global.{Vec}
use Rattle.std.specs.Prelude.{IfNone, IfSome, MatchOption, option_map, option_to_list}
use Rattle.interp_calls.proofs.Calls.{through}
use Rattle.interp_calls.proofs.Frames.{no_more_frames, no_more_wrappers}
use Rattle.interp_calls.specs.Ways.{goes_back, goes_on, has_wrapper}
use Rattle.interp_state.proofs.Tops.{below_of, frames_are, no_frames, with_current_in, with_top_is}
use Rattle.interp_state.specs.Machines.{frame_of, goroutine_of, later_of, machine_of, thrown_of}
use Rattle.interp_state.specs.States.{left_by}
use Rattle.interp_state.specs.Turns.{Steps}
use Rattle.interp_state.specs.declared.frames.Frame.{Frame}
use Rattle.interp_state.specs.declared.frames.Goroutine.{Goroutine}
use Rattle.interp_state.specs.declared.frames.Later as pending
use Rattle.interp_state.specs.declared.frames.Left.{Left}
use Rattle.interp_state.specs.declared.frames.Thrown.{Thrown}
use Rattle.interp_state.specs.declared.machine.Machine.{Machine}
use Rattle.interp_state.specs.declared.machine.Turn.{Turn}
use Rattle.plan_mean.specs.State as meant
use Rattle.plan_mean.specs.State.{World, Next, goes, with_current, with_frames}
use Rattle.plan_mean.specs.Step.{front_of, last_of, makes, unwinds}
use Rattle.plan_mean.specs.Unwinding.{popped, removed, throws}

-- ---- frames that go with the wrappers below them

had_top : (top : Option Frame) (left : Left) (P : Type 0) → Some left ≡ option_map left_by top → IfSome top (λ _. P) → P
had_top None left P is h = let no : ⊥ = cc in absurd no
had_top (Some frame) left P is h = h

pub went : (result : Option Left) (left : Left) (old new : Goroutine) → result ≡ Some left
    → result ≡ option_map left_by old.top → IfSome old.top (λ _. goroutine_of new ≡ popped (goroutine_of old))
    → goroutine_of new ≡ popped (goroutine_of old)
went result left old new found is gone =
    had_top old.top left (goroutine_of new ≡ popped (goroutine_of old)) (sym found ∙ is) gone

all_by : (old new : meant.Goroutine) (frames : List meant.Frame) → new ≡ popped old → new.frames ≡ frames
    → has_wrapper frames ≡ false → new ≡ removed old
all_by old new [] gone is other = no_more_frames old new gone is
all_by old new (frame ∷ below) gone is other = no_more_wrappers old new frame below gone is other

pub none_left : (old new : meant.Goroutine) → new ≡ popped old → has_wrapper new.frames ≡ false → new ≡ removed old
none_left old new gone other = all_by old new new.frames gone refl other

pub thrown_below : (result : Turn) (old mid new : Machine) (thrown : Thrown)
    → goroutine_of mid.current ≡ removed (goroutine_of old.current) → mid ≡ record old { current = mid.current }
    → Steps result mid new (λ w. throws w (thrown_of thrown) (machine_of mid))
    → Steps result old new (λ w. throws w (thrown_of thrown) (with_current (removed (machine_of old).current)
    (machine_of old)))
thrown_below result old mid new thrown gone others step =
    through result old mid new
    (λ w. throws w (thrown_of thrown) (with_current (removed (machine_of old).current) (machine_of old)))
    (λ w. throws w (thrown_of thrown) (machine_of mid))
    (λ w within. with_current_in w old mid mid.current others within)
    (λ w within. ap (throws w (thrown_of thrown)) (sym (ap machine_of others
    ∙ ap (λ (g : meant.Goroutine). with_current g (machine_of old)) gone))) step

-- ---- a frame without deferred calls

-- ---- the last deferred call

front_is : (x : meant.Later) (rest : List meant.Later) (it : meant.Later) → front_of x (rest ++ it ∷ []) ≡ x ∷ rest
front_is x [] it = refl
front_is x (y ∷ rest) it = ap (λ rest. x ∷ rest) (front_is y rest it)

last_is : (x : meant.Later) (rest : List meant.Later) (it : meant.Later) → last_of x (rest ++ it ∷ []) ≡ it
last_is x [] it = refl
last_is x (y ∷ rest) it = last_is y rest it

unwinds_last : (w : World) (m : meant.Machine) (top : meant.Frame) (below : List meant.Frame) (rest : List meant.Later)
    (it : meant.Later) → unwinds w m top below (rest ++ it ∷ [])
    ≡ makes w (with_frames (record top { defers = rest } ∷ below) m) it true it.called
unwinds_last w m top below [] it = refl
unwinds_last w m top below (x ∷ rest) it =
    ap (λ (defers : List meant.Later). makes w (with_frames (record top { defers = defers } ∷ below) m)
    (last_of x (rest ++ it ∷ [])) true (last_of x (rest ++ it ∷ [])).called) (front_is x rest it)
    ∙ ap (λ (it : meant.Later). makes w (with_frames (record top { defers = x ∷ rest } ∷ below) m) it true it.called)
    (last_is x rest it)

last_made : (old new : Machine) (top : Frame) (rest : Vec pending.Later) (it : pending.Later) (w : World)
    → old.current.top ≡ Some top → top.defers.items ≡ rest.items ++ it ∷ []
    → new ≡ record old { current = record (old.current) { top = Some (record top { defers = rest }) } }
    → goes_back w (machine_of old) (machine_of old).current.frames
    ≡ makes w (machine_of new) (later_of it) true (later_of it).called
last_made old new top rest it w is items others =
    let m = machine_of old in
    ap (goes_back w m) (frames_are old.current top is)
    ∙ ap (unwinds w m (frame_of top) (below_of old.current))
    (ap (map later_of) items ∙ map-append later_of rest.items (it ∷ []))
    ∙ unwinds_last w m (frame_of top) (below_of old.current) (map later_of rest.items) (later_of it)
    ∙ ap (λ (m : meant.Machine). makes w m (later_of it) true (later_of it).called)
    (sym (with_top_is old new (record top { defers = rest }) others))

none_made : (old new : Machine) (top : Frame) (rest : Vec pending.Later) (w : World) → old.current.top ≡ Some top
    → top.defers.items ≡ [] → rest.items ≡ []
    → new ≡ record old { current = record (old.current) { top = Some (record top { defers = rest }) } }
    → goes_back w (machine_of old) (machine_of old).current.frames
    ≡ goes_on w (machine_of new) (machine_of new).current.frames
none_made old new top rest w is none none' others =
    let m = machine_of old in
    let there = frames_are old.current top is in
    let same : machine_of new ≡ m =
    with_top_is old new (record top { defers = rest }) others
    ∙ ap (λ (items : List pending.Later).
    with_frames (record (frame_of top) { defers = map later_of items } ∷ below_of old.current) m)
    (none' ∙ sym none)
    ∙ ap (λ frames. with_frames frames m) (sym there) in
    ap (goes_back w m) there
    ∙ ap (λ (items : List pending.Later). unwinds w m (frame_of top) (below_of old.current) (map later_of items)) none
    ∙ ap (goes_on w m) (sym there)
    ∙ ap (λ (m : meant.Machine). goes_on w m m.current.frames) (sym same)

pub deferred_some : (r : Option pending.Later) (old new : Machine) (top : Frame) (rest : Vec pending.Later)
    → old.current.top ≡ Some top → top.defers.items ≡ rest.items ++ option_to_list r
    → new ≡ record old { current = record (old.current) { top = Some (record top { defers = rest }) } }
    → IfSome r (λ it. (w : World) → goes_back w (machine_of old) (machine_of old).current.frames
    ≡ makes w (machine_of new) (later_of it) true (later_of it).called)
deferred_some None old new top rest is items others = tt
deferred_some (Some it) old new top rest is items others = λ w. last_made old new top rest it w is items others

pub deferred_none : (r : Option pending.Later) (old new : Machine) (top : Frame) (rest : Vec pending.Later) (n : ℕ)
    (Q P : Type 0) → old.current.top ≡ Some top → top.defers.items ≡ rest.items ++ option_to_list r
    → MatchOption r ((n ≡ 0) × Q) (λ it. P) → rest.items ≡ take (n - 1) top.defers.items
    → new ≡ record old { current = record (old.current) { top = Some (record top { defers = rest }) } }
    → IfNone r ((w : World) → goes_back w (machine_of old) (machine_of old).current.frames
    ≡ goes_on w (machine_of new) (machine_of new).current.frames)
deferred_none None old new top rest n Q P is items cases shorter others =
    let none : rest.items ≡ [] = shorter ∙ ap (λ n. take (n - 1) top.defers.items) cases.0 in
    λ w. none_made old new top rest w is (items ∙ ap (λ (xs : List pending.Later). xs ++ []) none) none others
deferred_none (Some it) old new top rest n Q P is items cases shorter others = tt

pub none_deferred : (old : Machine) (w : World) → old.current.top ≡ None
    → goes_back w (machine_of old) (machine_of old).current.frames
    ≡ goes_on w (machine_of old) (machine_of old).current.frames
none_deferred old w none =
    ap (goes_back w (machine_of old)) (no_frames old.current none)
    ∙ sym (ap (goes_on w (machine_of old)) (no_frames old.current none))
