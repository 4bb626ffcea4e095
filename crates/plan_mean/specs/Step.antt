-- One step of the machine that runs planned code: a step of the frame that runs, or what a frame that returns or panics
-- does, or what a goroutine without frames does. What each step is for says the instruction of `ssa_mean` that it is
-- made of.
use Rattle.std.specs.Prelude.{ℕ, suc, ◌==◌, Bool, true, false, not, List, [], ◌∷◌, ◌++◌, ℤ, pos, negsuc, ◌-ℤ◌}
use Rattle.std.specs.Prelude.{Option, Some, None, length, slice_get, if◌then◌else◌, option_map}
use Rattle.std.specs.Bool.{beq}
use Rattle.std.specs.Cmp.Lexicographic.{slice_cmp}
use Rattle.std.specs.Global.{Box}
use Rattle.std.specs.List.{find}
use Rattle.std.specs.Option.{option_and_then}
use Rattle.std.specs.Ordering.{nat_cmp, int_cmp}
use Rattle.code_plan.specs.declared.steps.Arg.{Arg}
use Rattle.code_plan.specs.declared.steps.Bounds.{Bounds}
use Rattle.code_plan.specs.declared.steps.BuiltinForm.{BuiltinForm}
use Rattle.code_plan.specs.declared.steps.BuiltinForm.TheVariants as form
use Rattle.code_plan.specs.declared.steps.ConvertForm.{ConvertForm}
use Rattle.code_plan.specs.declared.steps.ConvertForm.TheVariants as convert
use Rattle.code_plan.specs.declared.steps.CutForm.{CutForm}
use Rattle.code_plan.specs.declared.steps.CutForm.TheVariants as cut
use Rattle.code_plan.specs.declared.steps.PlannedBlock.{PlannedBlock}
use Rattle.code_plan.specs.declared.steps.PlannedCall.{PlannedCall}
use Rattle.code_plan.specs.declared.steps.PlannedCase.{PlannedCase}
use Rattle.code_plan.specs.declared.steps.PlannedPhi.{PlannedPhi}
use Rattle.code_plan.specs.declared.steps.Step.{Step}
use Rattle.code_plan.specs.declared.steps.Step.TheVariants as act
use Rattle.go_base.specs.declared.ending.Ending.TheVariants as ending
use Rattle.go_base.specs.declared.ids.FuncId.{FuncId}
use Rattle.go_base.specs.declared.ids.TypeId.{TypeId}
use Rattle.go_maps.specs.Equality.{compared}
use Rattle.go_sched.specs.Operations.{Outcome, sends, receives, closes, selects}
use Rattle.go_sched.specs.declared.scheduling.Point.TheVariants as point
use Rattle.go_store.specs.Conversions.{within_limit}
use Rattle.go_store.specs.Slices.{elements_of}
use Rattle.go_store.specs.Stores.{Stored, made}
use Rattle.go_type.specs.declared.constants.ConstOp.{ConstOp}
use Rattle.go_type.specs.declared.kinds.IntKind.{IntKind}
use Rattle.go_type.specs.declared.operators.CompareOp.{CompareOp}
use Rattle.go_value.specs.Interfaces.{converted, bound_to, is_interface_type}
use Rattle.go_value.specs.Ints.{operated, shift_value, wrapped}
use Rattle.go_value.specs.Runes as runes
use Rattle.go_value.specs.Values.{Val, truth, number, text, pointer, slice, map_number, chan_number, nil_interface}
use Rattle.go_value.specs.Values.{dynamic, closure, value_of}
use Rattle.go_value.specs.declared.faults.Fault.TheVariants as fault
use Rattle.go_value.specs.declared.values.BoundTarget.{BoundTarget}
use Rattle.go_value.specs.declared.values.Value.{Value}
use Rattle.plan_mean.specs.BuiltIns.{built_in_call}
use Rattle.plan_mean.specs.Calls.{readied, Entry, enters, entry_of, returned, with_new}
use Rattle.plan_mean.specs.Channels.{received, selected, cases_of, came_to, with_sched}
use Rattle.plan_mean.specs.MapCalls.{looked_up, updated}
use Rattle.plan_mean.specs.Operands.{look, look_at_all, with_one, with_two, with_integer, with_bound}
use Rattle.plan_mean.specs.Ranges.{map_turn, next_of_text}
use Rattle.plan_mean.specs.Slots.{slot_in}
use Rattle.plan_mean.specs.State.{World, Called, of_function, of_built_in, of_nil, Later, Frame, Machine}
use Rattle.plan_mean.specs.State.{Next, goes, ends, stuck, where_there, with_current, with_frames, with_value}
use Rattle.plan_mean.specs.State.{with_result, advanced}
use Rattle.plan_mean.specs.Unwinding.{at_block, meets, panics_with, spends, switches, unwound, recovering, recovered}
use Rattle.plan_mean.specs.Unwinding.{may_recover}
use Rattle.ssa_mean.specs.Arithmetic.{holds}
use Rattle.ssa_mean.specs.BuiltIns.{Done}
use Rattle.ssa_mean.specs.Comes.{Comes, to, faults, nowhere, of_option, of_result, then_to, where_some}
use Rattle.ssa_mean.specs.Conversions.{Stores, kept, text_of_items, slice_of_text}
use Rattle.ssa_mean.specs.MapCalls.{made_map}
use Rattle.ssa_mean.specs.Making.{Channels, value_or, assertion, pointers_of, is_nil_of, made_chan, made_slice}
use Rattle.ssa_mean.specs.Places.{load, assigned, new_pointer, field_of, field_address, index_of}
use Rattle.ssa_mean.specs.Places.{index_address, part_between}
use Rattle.ssa_mean.specs.Ranges.{Turn, range_of}
use Rattle.ssa_mean.specs.State.{FrameState, running, returning}

-- ---- how the frame goes on: it stands behind its step already

-- a step that gives a value and changes the store
abbrev pub gives_stored : World → Machine → ℕ → Comes Stores → Next
gives_stored w m slot (to it) = goes (with_value slot it.value (record m { store = it.store }))
gives_stored w m slot (faults it) = meets w it m
gives_stored w m slot nowhere = stuck

-- one that gives a value alone
abbrev pub gives : World → Machine → ℕ → Comes Val → Next
gives w m slot it = gives_stored w m slot (then_to (kept m.store) it)

-- one that changes the store alone
abbrev pub changes : World → Machine → Comes Stored → Next
changes w m (to store) = goes (record m { store = store })
changes w m (faults it) = meets w it m
changes w m nowhere = stuck

-- one that makes a channel
abbrev pub gives_channel : World → Machine → ℕ → Comes Channels → Next
gives_channel w m slot (to it) = goes (with_value slot it.value (with_sched it.sched m))
gives_channel w m slot (faults it) = meets w it m
gives_channel w m slot nowhere = stuck

-- ---- operators

abbrev pub with_integers : {A : Type 0} → Machine → Arg → Arg → (ℤ → ℤ → Comes A) → Comes A
with_integers m left right next = with_integer m left (λ a. with_integer m right (λ b. next a b))

abbrev pub arithmetic : Machine → ConstOp → IntKind → Arg → Arg → Comes Val
arithmetic m op kind left right =
    with_integers m left right (λ a b. then_to number (of_result (operated kind op a b)))

abbrev pub shift : Machine → Bool → IntKind → Arg → Arg → Comes Val
shift m left kind it count =
    with_integers m it count (λ a n. then_to number (of_result (shift_value kind left a n)))

abbrev pub with_texts : {A : Type 0} → Machine → Arg → Arg → (List ℕ → List ℕ → Comes A) → Comes A
with_texts m left right next = with_two m left right (on_texts next)
  where
    on_texts : {A : Type 0} → (List ℕ → List ℕ → Comes A) → Val → Val → Comes A
    on_texts next (text a) (text b) = next a b
    on_texts next _ _ = nowhere

abbrev pub join : Machine → Arg → Arg → Comes Val
join m left right = with_texts m left right (λ a b. then_to text (of_result (within_limit (a ++ b))))

abbrev pub compare_integers : Machine → CompareOp → Arg → Arg → Comes Val
compare_integers m op left right = with_integers m left right (λ a b. to (truth (holds op (int_cmp a b))))

abbrev pub compare_texts : Machine → CompareOp → Arg → Arg → Comes Val
compare_texts m op left right =
    with_texts m left right (λ a b. to (truth (holds op (slice_cmp nat_cmp a b))))

abbrev pub are_equal : World → Machine → Bool → Arg → Arg → Comes Val
are_equal w m wanted left right =
    with_two m left right (λ a b. then_to (λ same. truth (beq same wanted))
    (of_result (compared w.answers.comparable a b)))

abbrev pub not_of : Val → Comes Val
not_of (truth it) = to (truth (not it))
not_of _ = nowhere

-- ---- maps, slices and conversions

abbrev pub look_up : World → Stored → Val → Bool → Val → Val → Comes Val
look_up w store zero comma_ok (map_number id) key =
    then_to (λ found. value_or comma_ok found zero) (looked_up w.answers.comparable store id key)
look_up w store zero comma_ok _ key = nowhere

abbrev pub update : World → Stored → Val → Val → Val → Comes Stored
update w store (map_number id) key it = updated w.answers.comparable store id key it
update w store _ key it = nowhere

abbrev pub length_of_cut : CutForm → Option ℕ
length_of_cut (cut.Array len) = Some len
length_of_cut _ = None

abbrev pub cut_of : Machine → CutForm → Arg → Bounds → Comes Val
cut_of m form it bounds =
    with_one m it (λ whole. with_bound m bounds.low (λ low. with_bound m bounds.high (λ high.
    with_bound m bounds.max (λ max.
    part_between (length_of_cut form) whole (record { low = low; high = high; max = max })))))

abbrev pub text_of_slice : Stored → Bool → Val → Comes Val
text_of_slice store bytes (slice it) = where_some (text_of_items bytes) (elements_of store it)
text_of_slice store bytes _ = nowhere

abbrev pub slice_of : Stored → Bool → Val → Comes Stores
slice_of store bytes (text it) = slice_of_text store bytes it
slice_of store bytes _ = nowhere

abbrev pub conversion : Machine → ConvertForm → Arg → Comes Stores
conversion m (convert.Int kind) it =
    with_integer m it (λ n. to (kept m.store (number (wrapped kind n))))
conversion m convert.IntToText it = with_integer m it (λ n. to (kept m.store (text (runes.rune_bytes n))))
conversion m convert.BytesToText it = then_to (kept m.store) (with_one m it (text_of_slice m.store true))
conversion m convert.RunesToText it = then_to (kept m.store) (with_one m it (text_of_slice m.store false))
conversion m convert.TextToBytes it = with_one m it (slice_of m.store true)
conversion m convert.TextToRunes it = with_one m it (slice_of m.store false)

-- ---- what is made

abbrev pub new_cell : Machine → Box Value → Stores
new_cell m zero =
    record { value = pointer (new_pointer m.store); store = made m.store (value_of zero.value) }

abbrev pub new_map : Machine → Stores
new_map m =
    record { value = map_number (Some (record { number = length m.store.maps })); store = made_map m.store }

abbrev pub make_closure : Machine → FuncId → List Arg → Comes Val
make_closure m id captured =
    where_some (λ it. then_to (closure id) (of_option (pointers_of it))) (look_at_all m captured)

abbrev pub bind : BoundTarget → Bool → Val → Comes Val
bind target is_interface receiver =
    if is_nil_of is_interface receiver then faults fault.NilPointer else of_result (bound_to target receiver)

-- a value in an interface as one of a type: that of this very type, or itself where the type is an interface that is
-- implemented
abbrev pub held_by : World → TypeId → Val → TypeId → Option Val
held_by w of it wanted =
    if of.number == wanted.number then Some it
    else (if is_interface_type w.naming.types wanted
    then (if w.answers.implements of wanted then Some (dynamic of it) else None) else None)

abbrev pub held_as : World → Val → TypeId → Option Val
held_as w (dynamic of it) wanted = held_by w of it wanted
held_as w _ wanted = None

abbrev pub assert_type : World → Machine → Arg → TypeId → Box Value → Bool → Comes Val
assert_type w m it wanted zero comma_ok =
    with_one m it (λ it. assertion comma_ok it wanted (held_as w it wanted) (value_of zero.value))

-- ---- blocks: all phis are read before one is written

abbrev pub edge_value : Machine → ℕ → PlannedPhi → Option Val
edge_value m from phi =
    option_and_then (λ edge. look m edge.value) (find (λ edge. edge.from == from) phi.edges.items)

-- the machine with the values of the phis; the first is written last
abbrev pub with_phis : Machine → ℕ → List PlannedPhi → Machine → Option Machine
with_phis before from [] m = Some m
with_phis before from (phi ∷ phis) m =
    option_and_then (λ it. option_map (with_value phi.to it) (with_phis before from phis m))
    (edge_value before from phi)

abbrev pub enters_block : ℕ → PlannedBlock → Machine → Next
enters_block from block m = where_there goes (with_phis m from block.phis.items m)

abbrev pub jumps_from : ℕ → Machine → List Frame → Next
jumps_from to_block m [] = stuck
jumps_from to_block m (top ∷ below) =
    where_there (λ block. enters_block top.block block (with_frames (at_block to_block top ∷ below) m))
    (slice_get top.function.blocks.items to_block)

abbrev pub jumps : ℕ → Machine → Next
jumps to_block m = jumps_from to_block m m.current.frames

abbrev pub branches : Machine → ℕ → ℕ → Val → Next
branches m then_to else_to (truth it) = if it then jumps then_to m else jumps else_to m
branches m then_to else_to _ = stuck

-- ---- calls

-- what is written is put behind the output
abbrev pub finishes : World → Machine → Option ℕ → Comes Done → Next
finishes w m slot (to it) =
    goes (with_result slot it.value (record m { store = it.store; output = m.output ++ it.written }))
finishes w m slot (faults it) = meets w it m
finishes w m slot nowhere = stuck

abbrev pub close_of : World → Machine → List Val → Next
close_of w m (chan_number id ∷ []) =
    let outcome = closes m.sched id in
    came_to w m (λ index it. with_sched outcome.after m) m outcome.answer
close_of w m _ = stuck

abbrev pub panic_of : World → Machine → List Val → Next
panic_of w m (it ∷ []) = panics_with w m it
panic_of w m _ = stuck

abbrev pub recovers_in : Machine → Option ℕ → List Frame → Next
recovers_in m slot [] = stuck
recovers_in m slot (top ∷ below) =
    if may_recover top
    then goes (with_result slot (Some (recovered below)) (with_frames (top ∷ recovering below) m))
    else goes (with_result slot (Some nil_interface) m)

-- a built-in function that a step calls
abbrev pub calls_built_in : World → Machine → Option ℕ → BuiltinForm → List Val → Next
calls_built_in w m slot form.Close arguments = close_of w m arguments
calls_built_in w m slot form.Panic arguments = panic_of w m arguments
calls_built_in w m slot form.Recover arguments = recovers_in m slot m.current.frames
calls_built_in w m slot it arguments =
    finishes w m slot (built_in_call w.answers m.store m.sched it arguments)

abbrev pub calls : World → Machine → Option ℕ → Later → Called → Next
calls w m slot it (of_function n free) = enters w (entry_of n free it false slot m) m
calls w m slot it (of_built_in called) = calls_built_in w m slot called it.arguments
calls w m slot it of_nil = meets w fault.NilPointer m

-- a call that is readied is made, or put off
abbrev pub goes_with_call : World → Machine → (Later → Next) → Comes Later → Next
goes_with_call w m next (to it) = next it
goes_with_call w m next (faults it) = meets w it m
goes_with_call w m next nowhere = stuck

abbrev pub with_later : World → Machine → PlannedCall → (Later → Next) → Next
with_later w m call next = goes_with_call w m next (readied w m call.callee call.arguments.items)

abbrev pub puts_off : Later → List Frame → Machine → Next
puts_off it [] m = stuck
puts_off it (top ∷ below) m = goes (with_frames (record top { defers = top.defers ++ it ∷ [] } ∷ below) m)

abbrev pub starts_call : World → Machine → Later → Next
starts_call w m it = switches w point.After (with_new it m)

abbrev pub runs_defers : List Frame → Machine → Next
runs_defers [] m = stuck
runs_defers (top ∷ below) m = goes (with_frames (returning_where top.defers ∷ below) m)
  where
    returning_where : List Later → Frame
    returning_where [] = top
    returning_where _ = record top { state = returning }

-- ---- channels

abbrev pub send_on : World → Machine → Val → Val → Next
send_on w m (chan_number id) it =
    let outcome = sends 0 it m.sched id in
    came_to w (with_sched outcome.after m) (λ index it. with_sched outcome.after m) m outcome.answer
send_on w m _ it = stuck

abbrev pub receive_from : World → Machine → ℕ → Box Value → Bool → Val → Next
receive_from w m slot zero comma_ok (chan_number id) =
    let outcome = receives 0 m.sched id in
    came_to w (with_sched outcome.after m)
    (λ index it. with_value slot (received zero comma_ok it) (with_sched outcome.after m)) m outcome.answer
receive_from w m slot zero comma_ok _ = stuck

abbrev pub select_among : World → Machine → ℕ → List PlannedCase → Outcome → Next
select_among w m slot cases outcome =
    came_to w (with_sched outcome.after m)
    (λ index it. with_value slot (selected cases (Some index) it) (with_sched outcome.after m))
    (with_value slot (selected cases None None) (with_sched outcome.after m)) outcome.answer

-- ---- ranges: `next` puts the state of the range into the slot that it has it from

abbrev pub turns : Machine → ℕ → ℕ → Turn → Next
turns m range slot it = goes (with_value slot it.value (with_value range it.range (with_sched it.sched m)))

-- ---- the steps

unfoldable pub acts : World → Machine → Step → Next
acts w m (act.New zero slot) = gives_stored w m slot (to (new_cell m zero))
acts w m (act.Arithmetic op kind left right slot) = gives w m slot (arithmetic m op kind left right)
acts w m (act.Shift left kind it count slot) = gives w m slot (shift m left kind it count)
acts w m (act.Join left right slot) = gives w m slot (join m left right)
acts w m (act.CompareInts op left right slot) = gives w m slot (compare_integers m op left right)
acts w m (act.CompareTexts op left right slot) = gives w m slot (compare_texts m op left right)
acts w m (act.Equal wanted left right slot) = gives w m slot (are_equal w m wanted left right)
acts w m (act.Negate kind it slot) =
    gives w m slot (with_integer m it (λ n. to (number (wrapped kind (pos 0 -ℤ n)))))
acts w m (act.Complement kind it slot) =
    gives w m slot (with_integer m it (λ n. to (number (wrapped kind (negsuc 0 -ℤ n)))))
acts w m (act.Not it slot) = gives w m slot (with_one m it not_of)
acts w m (act.Load at slot) = gives w m slot (with_one m at (load m.store))
acts w m (act.Store at it) = changes w m (with_two m at it (assigned m.store))
acts w m (act.Field it field slot) = gives w m slot (with_one m it (λ it. field_of it field))
acts w m (act.FieldAddress it field slot) = gives w m slot (with_one m it (λ it. field_address it field))
acts w m (act.Element it index slot) = gives w m slot (with_two m it index index_of)
acts w m (act.Byte it index slot) = gives w m slot (with_two m it index index_of)
acts w m (act.SliceElement it index slot) = gives w m slot (with_two m it index (index_address None))
acts w m (act.ArrayElement it index len slot) = gives w m slot (with_two m it index (index_address (Some len)))
acts w m (act.Lookup it key zero comma_ok slot) =
    gives w m slot (with_two m it key (look_up w m.store (value_of zero.value) comma_ok))
acts w m (act.Update it key new) =
    changes w m (with_two m it key (λ it key. with_one m new (update w m.store it key)))
acts w m (act.Cut form it bounds slot) = gives w m slot (cut_of m form it bounds.value)
acts w m (act.Convert form it slot) = gives_stored w m slot (conversion m form it)
acts w m (act.Keep it slot) = gives w m slot (with_one m it to)
acts w m (act.MakeInterface of it slot) =
    gives w m slot (with_one m it (λ inner. of_result (converted w.naming.types of inner)))
acts w m (act.Closure id captured slot) = gives w m slot (make_closure m id captured.items)
acts w m (act.Bind target is_interface receiver slot) =
    gives w m slot (with_one m receiver (bind target is_interface))
acts w m (act.MakeMap slot) = gives_stored w m slot (to (new_map m))
acts w m (act.MakeChan leaves size slot) =
    gives_channel w m slot (with_integer m size (made_chan leaves m.sched))
acts w m (act.MakeSlice zero leaves len cap slot) =
    gives_stored w m slot (with_integers m len cap (made_slice leaves m.store (value_of zero.value)))
acts w m (act.Assert it wanted zero comma_ok slot) = gives w m slot (assert_type w m it wanted zero comma_ok)
acts w m (act.Call call slot) = with_later w m call (λ it. calls w m slot it it.called)
acts w m (act.Go call) = with_later w m call (starts_call w m)
acts w m (act.Defer call) = with_later w m call (λ it. puts_off it m.current.frames m)
acts w m act.RunDefers = runs_defers m.current.frames m
acts w m (act.Send channel it) =
    where_there (λ channel. where_there (send_on w m channel) (look m it)) (look m channel)
acts w m (act.Receive channel zero comma_ok slot) =
    where_there (receive_from w m slot zero comma_ok) (look m channel)
acts w m (act.Select blocking cases slot) =
    where_there (λ operations. select_among w m slot cases.items (selects m.sched operations (not blocking)))
    (cases_of m cases.items)
acts w m (act.Range it slot) = gives w m slot (with_one m it (λ it. of_option (range_of m.store it)))
acts w m (act.NextText range slot) =
    where_there (turns m range slot) (option_and_then (next_of_text m.sched) (slot_in m.current.slots range))
acts w m (act.NextMap range key it slot) =
    where_there (turns m range slot)
    (option_and_then (map_turn m.store m.sched (value_of key.value) (value_of it.value))
    (slot_in m.current.slots range))
acts w m (act.Extract it part slot) = gives w m slot (with_one m it (λ it. field_of it part))
acts w m act.Tick = spends m goes
acts w m (act.Jump to_block) = jumps to_block m
acts w m (act.If test then_to else_to) = where_there (branches m then_to else_to) (look m test)
acts w m (act.Return values) =
    where_there (λ results. returned results m.current.frames m) (look_at_all m values.items)
acts w m (act.Panic it) = where_there (panics_with w m) (look m it)

-- ---- calls that were put off, in the frame of the goroutine that makes them

-- a built-in function in a frame of its own, where `recover` gives nothing
abbrev pub alone : World → Machine → BuiltinForm → List Val → Next
alone w m form.Recover arguments = goes m
alone w m it arguments = calls_built_in w m None it arguments

abbrev pub makes : World → Machine → Later → Bool → Called → Next
makes w m it deferred (of_function n free) = enters w (entry_of n free it deferred None m) m
makes w m it deferred (of_built_in called) = alone w m called it.arguments
makes w m it deferred of_nil = meets w fault.NilPointer m

-- the calls that were put off, but the last; and the last
abbrev pub front_of : Later → List Later → List Later
front_of first [] = []
front_of first (second ∷ others) = first ∷ front_of second others

abbrev pub last_of : Later → List Later → Later
last_of first [] = first
last_of first (second ∷ others) = last_of second others

-- a frame that returns or panics makes its last deferred call
abbrev pub unwinds : World → Machine → Frame → List Frame → List Later → Next
unwinds w m top below [] = unwound w m top below top.state
unwinds w m top below (first ∷ others) =
    let it = last_of first others in
    makes w (with_frames (record top { defers = front_of first others } ∷ below) m) it true it.called

-- a frame that runs stands behind its step when that is done
abbrev pub does : World → Machine → Frame → List Frame → Option Step → Next
does w m top below None = stuck
does w m top below (Some it) = acts w (with_frames (advanced top ∷ below) m) it

abbrev pub moves : World → Machine → Frame → List Frame → FrameState → Next
moves w m top below running = does w m top below (slice_get top.steps top.step)
moves w m top below _ = unwinds w m top below top.defers

-- ---- a goroutine without frames: it begins; goroutine 0 goes on with what it is to call, and the run ends with it;
-- another ends, which is a switch point

abbrev pub first_entry : ℕ → Entry
first_entry n = record { function = n; free = []; arguments = []; deferred = false; result = None; chain = 0 }

abbrev pub starts_next : World → Machine → Option ℕ → Next
starts_next w m None = ends (ending.Exited 0) m.output
starts_next w m (Some n) = enters w (first_entry n) (record m { started = suc m.started })

abbrev pub ends_or_starts : World → Machine → ℕ → Next
ends_or_starts w m goroutine =
    if goroutine == 0 then starts_next w m (slice_get w.plan.starts.items m.started)
    else switches w point.Ended m

abbrev pub begins : World → Machine → Option Later → Next
begins w m None = ends_or_starts w m m.sched.current.number
begins w m (Some it) = makes w (with_current (record (m.current) { begin = None }) m) it false it.called

-- ---- a step

abbrev pub steps_on : World → Machine → List Frame → Next
steps_on w m [] = begins w m m.current.begin
steps_on w m (top ∷ below) = moves w m top below top.state

unfoldable pub step : World → Machine → Next
step w m = steps_on w m m.current.frames
