-- Frames that come and go.
use Rattle.std.proofs.Common.{◌≡◌, ◌∙◌, ◌<◌, ℕ, suc, List, [], ◌∷◌, ◌++◌, Option, Some, None, Bool, true, false, refl}
use Rattle.std.proofs.Common.{sym, ap, subst, length, map, min, arith, eq-eqb}
use Rattle.std.proofs.lemmas.List.{map-append}
use Rattle.std.specs.Global.{Vec}
use Rattle.std.specs.Prelude.{option_map, IfSome, OnOk, OnErr, Result, Ok, Err, if◌then◌else◌, slice_get}
use Rattle.code_plan.specs.declared.steps.PlannedBlock.{PlannedBlock}
use Rattle.code_plan.specs.declared.steps.PlannedFunction.{PlannedFunction}
use Rattle.code_plan.specs.declared.steps.Step.{Step}
use Rattle.go_value.specs.Values.{Val, value_of}
use Rattle.go_value.specs.declared.values.Value.{Value}
use Rattle.go_base.specs.declared.memory.NoMemory.{NoMemory}
use Rattle.interp_calls.proofs.Calls.{done_or_wants}
use Rattle.interp_calls.specs.Ways.{HasRoom, IsAdmitted, IsFramed, entry_with, gives_back, on_way}
use Rattle.interp_calls.specs.declared.calling.Manner.{Manner}
use Rattle.interp_state.specs.Frames.{frames_of}
use Rattle.interp_state.specs.Machines.{frame_of, goroutine_of, later_of, machine_of}
use Rattle.interp_state.specs.States.{counted, frames_in, left_by, slots_of}
use Rattle.interp_state.specs.Turns.{IsIn, Steps}
use Rattle.interp_state.specs.declared.frames.Frame.{Frame}
use Rattle.interp_state.specs.declared.frames.Goroutine.{Goroutine}
use Rattle.interp_state.specs.declared.frames.Later as pending
use Rattle.interp_state.specs.declared.frames.Left.{Left}
use Rattle.interp_state.specs.declared.machine.Machine.{Machine}
use Rattle.interp_state.specs.declared.machine.Turn.{Turn}
use Rattle.interp_state.specs.declared.machine.Turn.TheVariants as turn
use Rattle.interp_state.proofs.Turns.{goes_to}
use Rattle.interp_state.proofs.Tops.{below_of, frames_are}
use Rattle.plan_mean.specs.Calls.{enters, entered_slots, entered_sources, new_frame, pushed, with_entry}
use Rattle.plan_mean.specs.Slots.{with_frame, with_slot, with_slots_from}
use Rattle.plan_mean.specs.State as meant
use Rattle.plan_mean.specs.State.{World, goes, stuck, where_there, with_current, with_frames, with_result, with_slots}
use Rattle.plan_mean.specs.Step.{puts_off}
use Rattle.plan_mean.specs.Unwinding.{is_source, is_wrapper_frame, popped, removed, without_wrappers}
use Rattle.ssa_mean.specs.State.{running}

-- ---- results

-- a machine whose slots alone are others
pub restacked : (old new : Machine) → new ≡ record old { current = record (old.current) { stack = new.current.stack } }
    → machine_of new ≡ with_slots (frames_of new.current.stack) (machine_of old)
restacked old new is = ap machine_of is

pub result_given : (to : Option ℕ) (value : Option Value) (slot : ℕ) (it : Value) (old new : Machine) → to ≡ Some slot
    → value ≡ Some it → new ≡ record old { current = record (old.current) { stack = new.current.stack } }
    → frames_of new.current.stack ≡ with_slot slot (value_of it) (frames_of old.current.stack)
    → machine_of new ≡ with_result to (option_map value_of value) (machine_of old)
result_given to value slot it old new there some is set =
    restacked old new is ∙ ap (λ slots. with_slots slots (machine_of old)) set
    ∙ sym (ap (λ (to : Option ℕ). with_result to (option_map value_of value) (machine_of old)) there
    ∙ ap (λ (value : Option Value). with_result (Some slot) (option_map value_of value) (machine_of old)) some)

pub none_asked : (to : Option ℕ) (value : Option Value) (m : meant.Machine) → to ≡ None
    → m ≡ with_result to (option_map value_of value) m
none_asked to value m is = sym (ap (λ (to : Option ℕ). with_result to (option_map value_of value) m) is)

pub none_given : (to : Option ℕ) (value : Option Value) (m : meant.Machine) → value ≡ None
    → m ≡ with_result to (option_map value_of value) m
none_given to value m is =
    sym (ap (λ (value : Option Value). with_result to (option_map value_of value) m) is ∙ unasked to)
  where
    unasked : (to : Option ℕ) → with_result to None m ≡ m
    unasked None = refl
    unasked (Some slot) = refl

-- ---- a frame goes

pub gone : (g : Goroutine) (frame : Frame) (left : Left) (m : meant.Machine) (it : Option Val) → g.top ≡ Some frame
    → left ≡ left_by frame
    → gives_back it (goroutine_of g).frames m ≡ goes (with_result left.to it (with_current (popped m.current) m))
gone g frame left m it is same =
    ap (λ frames. gives_back it frames m) (frames_are g frame is)
    ∙ ap (λ (left : Left). goes (with_result left.to it (with_current (popped m.current) m))) (sym same)

some_left : (top : Option Frame) (left : Left) → Some left ≡ option_map left_by top
    → (frame : Frame) × ((top ≡ Some frame) × (left ≡ left_by frame))
some_left None left is = let no : ⊥ = cc in absurd no
some_left (Some frame) left is = let same : left ≡ left_by frame = cc in (frame, (refl, same))

pub goes_back_with : (result : Option Left) (left : Left) (value : Option Value) (old mid new : Machine) (g : Goroutine)
    → result ≡ Some left → result ≡ option_map left_by old.current.top
    → IfSome old.current.top (λ _. goroutine_of g ≡ popped (goroutine_of old.current))
    → mid ≡ record old { current = g }
    → machine_of new ≡ with_result left.to (option_map value_of value) (machine_of mid)
    → new ≡ record mid { current = record (mid.current) { stack = new.current.stack } }
    → Steps turn.Goes old new (λ w. gives_back (option_map value_of value) (machine_of old).current.frames
    (machine_of old))
goes_back_with result left value old mid new g found is gone_by put given others =
    let top = some_left old.current.top left (sym found ∙ is) in
    let went : goroutine_of g ≡ popped (goroutine_of old.current) =
    subst (λ (top : Option Frame). IfSome top (λ _. goroutine_of g ≡ popped (goroutine_of old.current)) →
    goroutine_of g ≡ popped (goroutine_of old.current)) (sym top.1.0) (λ h. h) gone_by in
    let at : machine_of mid ≡ with_current (popped (goroutine_of old.current)) (machine_of old) =
    ap machine_of put ∙ ap (λ g. with_current g (machine_of old)) went in
    record {
      comes = λ w within. goes_to w turn.Goes new
          (gives_back (option_map value_of value) (machine_of old).current.frames (machine_of old)) refl
          (subst (λ (m : Machine). IsIn w m) (sym (others
          ∙ ap (λ (m : Machine). record m { current = record (m.current) { stack = new.current.stack } }) put))
          (record { plan = within.plan; naming = within.naming; answers = within.answers; asked = within.asked }))
          (gone old.current top.0 left (machine_of old) (option_map value_of value) top.1.0 top.1.1
          ∙ ap goes (ap (with_result left.to (option_map value_of value)) (sym at) ∙ sym given));
    }

-- ---- a call is put off

pub one_more_later : (top : Frame) (items : List pending.Later) (later : pending.Later)
    → items ≡ top.defers.items ++ later ∷ []
    → record (frame_of top) { defers = map later_of items }
    ≡ record (frame_of top) { defers = (frame_of top).defers ++ later_of later ∷ [] }
one_more_later top items later is =
    ap (λ (defers : List meant.Later). record (frame_of top) { defers = defers })
    (ap (map later_of) is ∙ map-append later_of top.defers.items (later ∷ []))

pub put_off_is : (old new : Machine) (top : Frame) (later : pending.Later) (new_top : Frame)
    → old.current.top ≡ Some top → new ≡ record old { current = record (old.current) { top = Some new_top } }
    → frame_of new_top ≡ record (frame_of top) { defers = (frame_of top).defers ++ later_of later ∷ [] }
    → puts_off (later_of later) (machine_of old).current.frames (machine_of old) ≡ goes (machine_of new)
put_off_is old new top later new_top is put same =
    ap (λ frames. puts_off (later_of later) frames (machine_of old)) (frames_are old.current top is)
    ∙ ap goes (sym (ap machine_of put
    ∙ ap (λ (frame : meant.Frame). with_frames (frame ∷ below_of old.current) (machine_of old)) same))

-- ---- a frame comes

pub ok_then : {A E : Type 0} {P Q : Type 0} (r : Result A E) → (P → Q) → OnOk r P → OnOk r Q
ok_then (Ok it) next h = next h
ok_then (Err e) next h = tt

pub new_is : (function : PlannedFunction) (manner : Manner) (steps wanted : List Step) (items : List pending.Later)
    → steps ≡ wanted → items ≡ []
    → record {
      function = function;
      block = 0;
      steps = steps;
      step = 0;
      deferred = manner.deferred;
      state = running;
      defers = map later_of items;
      result = manner.to;
      chain = manner.chain;
    } ≡ new_frame function (entry_with 0 [] [] manner) wanted
new_is function manner steps wanted items same none =
    λ i. record {
      function = function;
      block = 0;
      steps = same i;
      step = 0;
      deferred = manner.deferred;
      state = running;
      defers = map later_of (none i);
      result = manner.to;
      chain = manner.chain;
    }

room_counts : (b : Bool) (sources : ℕ) → (b ≡ true → sources < 4294967295)
    → (if b then min (suc sources) 4294967295 else sources) ≡ (if b then suc sources else sources)
room_counts true sources room = let few : sources < 4294967295 = room refl in omega arith
room_counts false sources room = refl

pub framed : (function : PlannedFunction) (manner : Manner) (old : Machine) (block : PlannedBlock) (frame : Frame)
    (g : Goroutine)
    → HasRoom function old → slice_get function.blocks.items 0 ≡ Some block
    → g.sources ≡ counted function.role old.current.sources
    → g ≡ record (old.current) { below = g.below; top = g.top; sources = g.sources }
    → frame_of frame ≡ new_frame function (entry_with 0 [] [] manner) block.steps.items
    → frames_in g ≡ frame ∷ frames_in old.current
    → IsFramed function manner old (record old { current = g })
framed function manner old block frame g room first sources others same frames =
    let counts : g.sources ≡ entered_sources function old.current.sources =
    sources ∙ room_counts (is_source function.role) old.current.sources room in
    record {
      block = block;
      first = first;
      current = ap goroutine_of others
          ∙ ap (λ (frames : List meant.Frame).
          record (goroutine_of old.current) { frames = frames; sources = g.sources })
          (ap (map frame_of) frames ∙ ap (λ (frame : meant.Frame). frame ∷ map frame_of (frames_in old.current)) same)
          ∙ ap (λ (n : ℕ). record (goroutine_of old.current) {
            frames = new_frame function (entry_with 0 [] [] manner) block.steps.items
                ∷ (goroutine_of old.current).frames;
            sources = n;
          }) counts;
    }

-- ---- frames of wrappers

wrapper_goes : (g : meant.Goroutine) (frame : meant.Frame) (below : List meant.Frame) → g.frames ≡ frame ∷ below
    → is_wrapper_frame frame ≡ true → without_wrappers g.frames g ≡ removed g
wrapper_goes g frame below is wrapper =
    ap (λ frames. without_wrappers frames g) is
    ∙ ap (λ b. if b then without_wrappers below (popped g) else g) wrapper
    ∙ ap (λ frames. without_wrappers frames (popped g)) (sym (ap next_of is))
  where
    next_of : List meant.Frame → List meant.Frame
    next_of frames = (popped (record g { frames = frames })).frames

pub still_removed : (old new : meant.Goroutine) (frame : meant.Frame) (below : List meant.Frame) → new ≡ popped old
    → new.frames ≡ frame ∷ below → is_wrapper_frame frame ≡ true → removed new ≡ removed old
still_removed old new frame below gone is wrapper =
    sym (ap (λ (g : meant.Goroutine). without_wrappers g.frames g) (sym gone) ∙ wrapper_goes new frame below is wrapper)

pub no_more_frames : (old new : meant.Goroutine) → new ≡ popped old → new.frames ≡ [] → new ≡ removed old
no_more_frames old new gone is =
    sym (ap (λ (g : meant.Goroutine). without_wrappers g.frames g) (sym gone)
    ∙ ap (λ frames. without_wrappers frames new) is)

pub no_more_wrappers : (old new : meant.Goroutine) (frame : meant.Frame) (below : List meant.Frame) → new ≡ popped old
    → new.frames ≡ frame ∷ below → is_wrapper_frame frame ≡ false → new ≡ removed old
no_more_wrappers old new frame below gone is other =
    sym (ap (λ (g : meant.Goroutine). without_wrappers g.frames g) (sym gone)
    ∙ ap (λ frames. without_wrappers frames new) is
    ∙ ap (λ b. if b then without_wrappers below (popped new) else new) other)

-- ---- a frame with its slots

pub frame_made : (function : PlannedFunction) (manner : Manner) (free arguments : List Val)
    (old first second new : Machine)
    → length arguments ≡ function.params
    → slots_of first ≡ with_slots_from 0 arguments (with_frame function.slots (slots_of old))
    → first ≡ record old { current = record (old.current) { stack = first.current.stack }; waiting = first.waiting }
    → slots_of second ≡ with_slots_from function.params free (slots_of first)
    → second ≡ record first { current = record (first.current) { stack = second.current.stack } }
    → IsFramed function manner second new → new ≡ record second { current = new.current }
    → pushed function (entry_with 0 free arguments manner) (machine_of old) ≡ goes (machine_of new)
frame_made function manner free arguments old first second new many filled others bound others' framed others'' =
    let slots : slots_of second ≡ entered_slots function (entry_with 0 free arguments manner) (slots_of old) =
    bound ∙ ap (with_slots_from function.params free) filled in
    let at_second : machine_of second ≡ with_slots (slots_of second) (machine_of old) =
    ap machine_of others' ∙ ap (λ (m : Machine). with_slots (slots_of second) (machine_of m)) others in
    let as_new : machine_of new ≡ with_current (goroutine_of new.current) (machine_of second) =
    ap machine_of others'' in
    ap (λ (b : Bool). if b then where_there (λ (block : PlannedBlock). goes (with_current (with_entry function
    (entry_with 0 free arguments manner) (new_frame function (entry_with 0 free arguments manner) block.steps.items)
    (machine_of old).current) (machine_of old))) (slice_get function.blocks.items 0) else stuck)
    (eq-eqb (length arguments) function.params many)
    ∙ ap (where_there (λ (block : PlannedBlock). goes (with_current (with_entry function
    (entry_with 0 free arguments manner) (new_frame function (entry_with 0 free arguments manner) block.steps.items)
    (machine_of old).current) (machine_of old)))) framed.first
    ∙ ap goes (sym (as_new ∙ ap (λ (g : meant.Goroutine). with_current g (machine_of second)) framed.current
    ∙ ap (λ (m : meant.Machine). with_current (record (m.current) {
      frames = new_frame function (entry_with 0 [] [] manner) framed.block.steps.items ∷ m.current.frames;
      sources = entered_sources function m.current.sources;
    }) m) at_second
    ∙ ap (λ slots. with_current (record (goroutine_of old.current) {
      frames = new_frame function (entry_with 0 [] [] manner) framed.block.steps.items
          ∷ (goroutine_of old.current).frames;
      slots = slots;
      sources = entered_sources function old.current.sources;
    }) (machine_of old)) slots))

pub as_found : (old new : Machine) (g : Goroutine) (waiting : Vec Value)
    → new ≡ record old { current = g; waiting = waiting }
    → new ≡ record old { current = new.current; waiting = new.waiting }
as_found old new g waiting is = is ∙ sym (λ i. record old { current = (is i).current; waiting = (is i).waiting })

pub others_of_slots : (old first second : Machine)
    → first ≡ record old { current = record (old.current) { stack = first.current.stack }; waiting = first.waiting }
    → second ≡ record first { current = record (first.current) { stack = second.current.stack } }
    → second ≡ record old { current = second.current; waiting = second.waiting }
others_of_slots old first second one two =
    as_found old second (record (first.current) { stack = second.current.stack }) first.waiting
    (two ∙ ap (λ (m : Machine). record m { current = record (first.current) { stack = second.current.stack } }) one)

pub others_of_frame : (old first second new : Machine)
    → first ≡ record old { current = record (old.current) { stack = first.current.stack }; waiting = first.waiting }
    → second ≡ record first { current = record (first.current) { stack = second.current.stack } }
    → new ≡ record second { current = new.current } → new ≡ record old { current = new.current; waiting = new.waiting }
others_of_frame old first second new one two three =
    as_found old new new.current first.waiting (three ∙ ap (λ (m : Machine). record m { current = new.current }) two
    ∙ ap (λ (m : Machine). record m { current = new.current }) one)

pub within_current : (w : World) (old new : Machine) → new ≡ record old { current = new.current; waiting = new.waiting }
    → IsIn w old → IsIn w new
within_current w old new is within =
    subst (λ (m : Machine). IsIn w m) (sym is)
    (record { plan = within.plan; naming = within.naming; answers = within.answers; asked = within.asked })

pub within_goroutines : (w : World) (old new : Machine)
    → new ≡ record old { goroutines = new.goroutines; sched = new.sched }
    → IsIn w old → IsIn w new
within_goroutines w old new is within =
    subst (λ (m : Machine). IsIn w m) (sym is)
    (record { plan = within.plan; naming = within.naming; answers = within.answers; asked = within.asked })

pub entered_with : (function : PlannedFunction) (n : ℕ) (manner : Manner) (free : List Val) (r : Result Unit NoMemory)
    (result : Turn) (old mid new : Machine)
    → IsAdmitted function (entry_with n free (on_way old) manner) old mid
    (λ w. enters w (entry_with n free (on_way old) manner) (machine_of old))
    → OnOk r (pushed function (entry_with 0 free (on_way mid) manner) (machine_of mid) ≡ goes (machine_of new))
    → new ≡ record mid { current = new.current; waiting = new.waiting }
    → OnOk r (result ≡ turn.Goes) → OnErr r (result ≡ turn.WantsMemory)
    → Steps result old new (λ w. enters w (entry_with n free (on_way old) manner) (machine_of old))
entered_with function n manner free r result old mid new admitted made others ok err =
    let same : on_way old ≡ on_way mid = sym (ap (λ (ws : Vec Value). map value_of ws.items) admitted.waiting) in
    done_or_wants r result old new (λ w. enters w (entry_with n free (on_way old) manner) (machine_of old)) ok err
    (λ w within. within_current w mid new others (admitted.world w within))
    (λ w within. ok_then r (λ is. admitted.leads w within
    ∙ ap (λ arguments. pushed function (entry_with 0 free arguments manner) (machine_of mid)) same ∙ is) made)
