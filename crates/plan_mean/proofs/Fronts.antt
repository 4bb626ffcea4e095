-- What was written before a step stands in front of what it writes, and changes nothing.
use Rattle.std.proofs.Common.{◌≡◌, ℕ, zero, suc, ◌+◌, List, [], ◌∷◌, ◌++◌, Option, Some, None, Bool, true, false, refl, ◌∙◌}
use Rattle.std.proofs.Common.{ap, append_assoc, zero-add}
use Rattle.std.proofs.Math.Nat.{suc-add}
use Rattle.std.specs.Prelude.{if◌then◌else◌, Result, Ok, Err, option_map, slice_get, slice_set, not, ◌==◌, length, ℤ}
use Rattle.std.specs.Global.{Box}
use Rattle.std.specs.Option.{option_and_then, option_map_or}
use Rattle.code_plan.specs.declared.steps.Arg.{Arg}
use Rattle.code_plan.specs.declared.steps.Bounds.{Bounds}
use Rattle.code_plan.specs.declared.steps.BuiltinForm.{BuiltinForm}
use Rattle.code_plan.specs.declared.steps.BuiltinForm.TheVariants as form
use Rattle.code_plan.specs.declared.steps.Callee.{Callee}
use Rattle.code_plan.specs.declared.steps.Callee.TheVariants as callee
use Rattle.code_plan.specs.declared.steps.ConvertForm.{ConvertForm}
use Rattle.code_plan.specs.declared.steps.ConvertForm.TheVariants as convert
use Rattle.code_plan.specs.declared.steps.CutForm.{CutForm}
use Rattle.code_plan.specs.declared.steps.PlannedBlock.{PlannedBlock}
use Rattle.code_plan.specs.declared.steps.PlannedCall.{PlannedCall}
use Rattle.code_plan.specs.declared.steps.PlannedCase.{PlannedCase}
use Rattle.code_plan.specs.declared.steps.PlannedCase.TheVariants as case
use Rattle.code_plan.specs.declared.steps.PlannedFunction.{PlannedFunction}
use Rattle.code_plan.specs.declared.steps.PlannedPhi.{PlannedPhi}
use Rattle.code_plan.specs.declared.steps.Role.{Role}
use Rattle.code_plan.specs.declared.steps.Role.TheVariants as role
use Rattle.code_plan.specs.declared.steps.Step.{Step}
use Rattle.code_plan.specs.declared.steps.Step.TheVariants as act
use Rattle.go_base.specs.declared.ending.Ending.TheVariants as ending
use Rattle.go_base.specs.declared.ids.FuncId.{FuncId}
use Rattle.go_base.specs.declared.ids.GoId.{GoId}
use Rattle.go_sched.specs.Operations.{Woken, Answer, Outcome, done, default, blocks, sends, receives, closes, selects}
use Rattle.go_sched.specs.declared.scheduling.Point.{Point}
use Rattle.go_sched.specs.declared.scheduling.Point.TheVariants as point
use Rattle.go_store.specs.Stores.{Stored}
use Rattle.go_value.specs.Values as vals
use Rattle.go_value.specs.Values.{Val}
use Rattle.go_value.specs.declared.faults.Fault.{Fault}
use Rattle.go_value.specs.declared.faults.Fault.TheVariants as fault
use Rattle.go_value.specs.declared.values.Value.{Value}
use Rattle.plan_mean.specs.BuiltIns.{built_in_call}
use Rattle.plan_mean.specs.Calls.{Entry, enters, enters_role, enters_source, exits, pushed, entry_of, returned, readied, with_new}
use Rattle.plan_mean.specs.Calls.{with_entry, new_frame, passed_by_invoke, invoked}
use Rattle.plan_mean.specs.Channels.{woken, woken_goroutine, all_woken, completed, answered, came_to, received, selected}
use Rattle.plan_mean.specs.Channels.{with_sched, case_of, cases_of, stays}
use Rattle.plan_mean.specs.Operands.{look, look_at_all, with_one, with_bound}
use Rattle.plan_mean.specs.Runs.{steps, then_step, behind, next_behind, FrontsStand, StepsFollow}
use Rattle.plan_mean.specs.State.{World, Called, of_function, of_built_in, of_nil, Later, Frame, Goroutine, Machine, Next}
use Rattle.plan_mean.specs.State.{goes, ends, stuck, where_there, with_current, with_frames, with_value, with_result, swapped, advanced}
use Rattle.plan_mean.specs.Step.{acts, step}
use Rattle.plan_mean.specs.Step as steps_of
use Rattle.plan_mean.specs.Unwinding.{throws_from, throws, meets, panics_with, with_tick, spends, goes_with, changed}
use Rattle.plan_mean.specs.Unwinding.{runs_on, switches, unwound, text_of_thrown, at_block, may_recover, recovered, recovering}
use Rattle.ssa_mean.specs.BuiltIns.{Done}
use Rattle.ssa_mean.specs.Comes.{Comes, to, faults, nowhere, where_some}
use Rattle.ssa_mean.specs.Conversions.{Stores}
use Rattle.ssa_mean.specs.Channels.{with_case}
use Rattle.ssa_mean.specs.Making as making
use Rattle.ssa_mean.specs.Operands as operands
use Rattle.ssa_mean.specs.Places.{part_between}
use Rattle.ssa_mean.specs.State.{FrameState, running, returning, panicking, Thrown, of_value}

-- a machine with more in front goes where the machine goes, with that in front
abbrev pub StaysBehind : List ℕ → (Machine → Next) → Type 0
StaysBehind front next = (m : Machine) → next (behind front m) ≡ next_behind front (next m)

-- ---- where something is there

there_behind : {A : Type 0} (front : List ℕ) (one other : A → Next) (it : Option A)
    → ((a : A) → other a ≡ next_behind front (one a)) → where_there other it ≡ next_behind front (where_there one it)
there_behind front one other None h = refl
there_behind front one other (Some a) h = h a

either_behind : (front : List ℕ) (b : Bool) (one two one' two' : Next) → one' ≡ next_behind front one
    → two' ≡ next_behind front two → (if b then one' else two') ≡ next_behind front (if b then one else two)
either_behind front true one two one' two' p q = p
either_behind front false one two one' two' p q = q

-- a machine that may be there, with more in front
mapped_there : (front : List ℕ) (next : Machine → Next) (it : Option Machine) → StaysBehind front next
    → where_there next (option_map (behind front) it) ≡ next_behind front (where_there next it)
mapped_there front next None h = refl
mapped_there front next (Some m) h = h m

mapped_behind : {A : Type 0} (front : List ℕ) (one other : A → Machine) (it : Option A)
    → ((a : A) → other a ≡ behind front (one a)) → option_map other it ≡ option_map (behind front) (option_map one it)
mapped_behind front one other None h = refl
mapped_behind front one other (Some a) h = ap (λ m. Some m) (h a)

-- ---- operands

all_behind : (front : List ℕ) (m : Machine) (args : List Arg) → look_at_all (behind front m) args ≡ look_at_all m args
all_behind front m [] = refl
all_behind front m (first ∷ others) = ap (operands.with_value (look m first)) (all_behind front m others)

result_behind : (front : List ℕ) (slot : Option ℕ) (it : Option Val) (m : Machine)
    → with_result slot it (behind front m) ≡ behind front (with_result slot it m)
result_behind front (Some slot) (Some it) m = refl
result_behind front (Some slot) None m = refl
result_behind front None it m = refl

-- ---- panics and switch points

from_behind : (w : World) (thrown : Thrown) (front : List ℕ) (m : Machine) (frames : List Frame)
    → throws_from w thrown (behind front m) frames ≡ next_behind front (throws_from w thrown m frames)
from_behind w thrown front m [] =
    there_behind front (λ (words : List ℕ). ends (ending.Panicked words) m.output)
    (λ (words : List ℕ). ends (ending.Panicked words) (front ++ m.output)) (text_of_thrown w thrown) (λ words. refl)
from_behind w thrown front m (top ∷ below) = refl

throws_behind : (w : World) (thrown : Thrown) (front : List ℕ) → StaysBehind front (throws w thrown)
throws_behind w thrown front m = from_behind w thrown front m m.current.frames

meets_behind : (w : World) (it : Fault) (front : List ℕ) → StaysBehind front (meets w it)
meets_behind w it front m = throws_behind w _ front m

panics_behind : (w : World) (it : Val) (front : List ℕ) (m : Machine)
    → panics_with w (behind front m) it ≡ next_behind front (panics_with w m it)
panics_behind w vals.nil_interface front m = meets_behind w fault.PanicNil front m
panics_behind w it front m = throws_behind w (of_value it) front m

tick_behind : (front : List ℕ) (n : ℕ) (m : Machine) (next : Machine → Next) → StaysBehind front next
    → with_tick n (behind front m) next ≡ next_behind front (with_tick n m next)
tick_behind front zero m next h = refl
tick_behind front (suc n) m next h = h (record m { ticks = n })

spends_behind : (front : List ℕ) (next : Machine → Next) → StaysBehind front next → StaysBehind front (λ m. spends m next)
spends_behind front next h m = tick_behind front m.ticks m next h

fault_behind : (w : World) (front : List ℕ) (m : Machine) (it : Option Fault)
    → goes_with w (behind front m) it ≡ next_behind front (goes_with w m it)
fault_behind w front m None = refl
fault_behind w front m (Some it) = meets_behind w it front (with_current (record (m.current) { fault = None }) m)

swapped_with : (front : List ℕ) (n : ℕ) (m : Machine) (it : Option Goroutine)
    → option_map_or (λ g. record (behind front m) { others = slice_set m.others n m.current; current = g }) it (behind front m)
    ≡ behind front (option_map_or (λ g. record m { others = slice_set m.others n m.current; current = g }) it m)
swapped_with front n m None = refl
swapped_with front n m (Some g) = refl

swapped_behind : (front : List ℕ) (n : ℕ) (m : Machine) → swapped n (behind front m) ≡ behind front (swapped n m)
swapped_behind front n m = swapped_with front n m (slice_get m.others n)

changed_where : (front : List ℕ) (same : Bool) (before now : ℕ) (m : Machine)
    → (if same then behind front m else swapped now (swapped before (behind front m)))
    ≡ behind front (if same then m else swapped now (swapped before m))
changed_where front true before now m = refl
changed_where front false before now m =
    ap (swapped now) (swapped_behind front before m) ∙ swapped_behind front now (swapped before m)

changed_behind : (front : List ℕ) (before now : ℕ) (m : Machine)
    → changed before now (behind front m) ≡ behind front (changed before now m)
changed_behind front before now m = changed_where front (before == now) before now m

runs_behind : (w : World) (before : ℕ) (it : Option GoId) (front : List ℕ) → StaysBehind front (runs_on w before it)
runs_behind w before None front m = refl
runs_behind w before (Some it) front m =
    ap (λ (now : Machine). goes_with w now now.current.fault) (changed_behind front before it.number m)
    ∙ fault_behind w front (changed before it.number m) (changed before it.number m).current.fault

switches_behind : (w : World) (at : Point) (front : List ℕ) → StaysBehind front (switches w at)
switches_behind w at front m =
    tick_behind front m.ticks m _ (λ (m : Machine). runs_behind w m.sched.current.number _ front (record m { sched = _ }))

unwound_behind : (w : World) (front : List ℕ) (m : Machine) (top : Frame) (below : List Frame) (state : FrameState)
    → unwound w (behind front m) top below state ≡ next_behind front (unwound w m top below state)
unwound_behind w front m top below (panicking thrown) = throws_behind w thrown front _
unwound_behind w front m top below running = refl
unwound_behind w front m top below returning = refl

-- ---- calls

pushed_behind : (function : PlannedFunction) (entry : Entry) (front : List ℕ) → StaysBehind front (pushed function entry)
pushed_behind function entry front m =
    either_behind front (length entry.arguments == function.params) _ stuck _ stuck
    (there_behind front
    (λ (block : PlannedBlock). goes (with_current (with_entry function entry
    (new_frame function entry block.steps.items) m.current) m))
    (λ (block : PlannedBlock). goes (with_current (with_entry function entry
    (new_frame function entry block.steps.items) m.current) (behind front m)))
    (slice_get function.blocks.items 0) (λ block. refl)) refl

source_behind : (function : PlannedFunction) (entry : Entry) (front : List ℕ)
    → StaysBehind front (enters_source function entry)
source_behind function entry front m =
    either_behind front _ (ends ending.StackOverflow m.output) _ (ends ending.StackOverflow (front ++ m.output)) _ refl
    (spends_behind front (pushed function entry) (pushed_behind function entry front) m)

exits_behind : (front : List ℕ) (m : Machine) (arguments : List Val)
    → exits (behind front m) arguments ≡ next_behind front (exits m arguments)
exits_behind front m [] = refl
exits_behind front m (vals.number status ∷ others) = refl
exits_behind front m _ = refl

role_behind : (w : World) (function : PlannedFunction) (of : Role) (entry : Entry) (front : List ℕ)
    → StaysBehind front (enters_role w function of entry)
role_behind w function role.Source entry front m = source_behind function entry front m
role_behind w function role.Exit entry front m = exits_behind front m entry.arguments
role_behind w function role.Gosched entry front m = switches_behind w point.Yield front m
role_behind w function _ entry front m = pushed_behind function entry front m

enters_behind : (w : World) (entry : Entry) (front : List ℕ) → StaysBehind front (enters w entry)
enters_behind w entry front m =
    there_behind front _ _ (slice_get w.plan.functions.items entry.function)
    (λ function. either_behind front _ (ends ending.StackOverflow m.output) _ (ends ending.StackOverflow (front ++ m.output)) _
    refl (role_behind w function function.role entry front m))

returned_behind : (front : List ℕ) (m : Machine) (results : List Val) (frames : List Frame)
    → returned results frames (behind front m) ≡ next_behind front (returned results frames m)
returned_behind front m results [] = refl
returned_behind front m results (top ∷ below) = ap goes (result_behind front top.result _ _)

readied_behind : (w : World) (front : List ℕ) (m : Machine) (it : Callee) (args : List Arg)
    → readied w (behind front m) it args ≡ readied w m it args
readied_behind w front m (callee.Function n) args = ap (where_some _) (all_behind front m args)
readied_behind w front m (callee.Value value) args = ap (where_some _) (all_behind front m args)
readied_behind w front m (callee.Method receiver method) args =
    ap (λ (all : Option (List Val)). where_some (λ (it : Val). where_some (λ (arguments : List Val).
    invoked w (passed_by_invoke m.current.frames) method arguments it) all) (look m receiver)) (all_behind front m args)
readied_behind w front m (callee.Builtin form) args = ap (where_some _) (all_behind front m args)

call_behind : (w : World) (front : List ℕ) (m : Machine) (one other : Later → Next) (it : Comes Later)
    → ((it : Later) → other it ≡ next_behind front (one it))
    → steps_of.goes_with_call w (behind front m) other it ≡ next_behind front (steps_of.goes_with_call w m one it)
call_behind w front m one other (to it) h = h it
call_behind w front m one other (faults it) h = meets_behind w it front m
call_behind w front m one other nowhere h = refl

later_behind : (w : World) (front : List ℕ) (m : Machine) (call : PlannedCall) (one other : Later → Next)
    → ((it : Later) → other it ≡ next_behind front (one it))
    → steps_of.with_later w (behind front m) call other ≡ next_behind front (steps_of.with_later w m call one)
later_behind w front m call one other h =
    ap (steps_of.goes_with_call w (behind front m) other) (readied_behind w front m call.callee call.arguments.items)
    ∙ call_behind w front m one other (readied w m call.callee call.arguments.items) h

-- ---- channels: those that go on write nothing

woken_behind : (front : List ℕ) (it : Woken) (m : Machine)
    → woken it (behind front m) ≡ option_map (behind front) (woken it m)
woken_behind front it m =
    mapped_behind front (λ g. record m { others = slice_set m.others it.goroutine.number g })
    (λ g. record (behind front m) { others = slice_set m.others it.goroutine.number g })
    (option_and_then (woken_goroutine it) (slice_get m.others it.goroutine.number)) (λ g. refl)

then_behind : (front : List ℕ) (next : Machine → Option Machine) (it : Option Machine)
    → ((m : Machine) → next (behind front m) ≡ option_map (behind front) (next m))
    → option_and_then next (option_map (behind front) it) ≡ option_map (behind front) (option_and_then next it)
then_behind front next None h = refl
then_behind front next (Some m) h = h m

woke_behind : (front : List ℕ) (others : List Woken) (m : Machine)
    → all_woken others (behind front m) ≡ option_map (behind front) (all_woken others m)
woke_behind front [] m = refl
woke_behind front (it ∷ others) m =
    ap (option_and_then (all_woken others)) (woken_behind front it m)
    ∙ then_behind front (all_woken others) (woken it m) (woke_behind front others)

completed_behind : (w : World) (others : List Woken) (front : List ℕ) → StaysBehind front (completed w others)
completed_behind w others front m =
    ap (where_there (switches w point.After)) (woke_behind front others m)
    ∙ mapped_there front (switches w point.After) (all_woken others m) (switches_behind w point.After front)

answered_behind : (w : World) (front : List ℕ) (m : Machine) (next next' : ℕ → Option Val → Machine)
    (otherwise : Machine) (answer : Answer) → ((index : ℕ) (it : Option Val) → next' index it ≡ behind front (next index it))
    → answered w (behind front m) next' (behind front otherwise) answer
    ≡ next_behind front (answered w m next otherwise answer)
answered_behind w front m next next' otherwise (done index it others) h =
    ap (completed w others) (h index it) ∙ completed_behind w others front (next index it)
answered_behind w front m next next' otherwise default h = switches_behind w point.After front otherwise
answered_behind w front m next next' otherwise blocks h = switches_behind w point.Blocked front (stays m)

came_behind : (w : World) (front : List ℕ) (m : Machine) (next next' : ℕ → Option Val → Machine) (otherwise : Machine)
    (it : Result Answer Fault)
    → ((index : ℕ) (it : Option Val) → next' index it ≡ behind front (next index it))
    → came_to w (behind front m) next' (behind front otherwise) it ≡ next_behind front (came_to w m next otherwise it)
came_behind w front m next next' otherwise (Ok answer) h = answered_behind w front m next next' otherwise answer h
came_behind w front m next next' otherwise (Err it) h = meets_behind w it front m

close_behind : (w : World) (front : List ℕ) (m : Machine) (arguments : List Val)
    → steps_of.close_of w (behind front m) arguments ≡ next_behind front (steps_of.close_of w m arguments)
close_behind w front m [] = refl
close_behind w front m (vals.chan_number id ∷ []) =
    let outcome : Outcome = closes m.sched id in
    came_behind w front m (λ index it. with_sched outcome.after m) (λ index it. with_sched outcome.after (behind front m)) m
    outcome.answer (λ index it. refl)
close_behind w front m _ = refl

send_behind : (w : World) (front : List ℕ) (m : Machine) (channel it : Val)
    → steps_of.send_on w (behind front m) channel it ≡ next_behind front (steps_of.send_on w m channel it)
send_behind w front m (vals.chan_number id) it =
    let outcome : Outcome = sends 0 it m.sched id in
    came_behind w front (with_sched outcome.after m) (λ index it. with_sched outcome.after m)
    (λ index it. with_sched outcome.after (behind front m)) m outcome.answer (λ index it. refl)
send_behind w front m _ it = refl

receive_behind : (w : World) (front : List ℕ) (m : Machine) (slot : ℕ) (null : Box Value) (comma_ok : Bool) (it : Val)
    → steps_of.receive_from w (behind front m) slot null comma_ok it
    ≡ next_behind front (steps_of.receive_from w m slot null comma_ok it)
receive_behind w front m slot null comma_ok (vals.chan_number id) =
    let outcome : Outcome = receives 0 m.sched id in
    came_behind w front (with_sched outcome.after m)
    (λ index it. with_value slot (received null comma_ok it) (with_sched outcome.after m))
    (λ index it. with_value slot (received null comma_ok it) (with_sched outcome.after (behind front m))) m outcome.answer
    (λ index it. refl)
receive_behind w front m slot null comma_ok _ = refl

select_behind : (w : World) (front : List ℕ) (m : Machine) (slot : ℕ) (cases : List PlannedCase) (outcome : Outcome)
    → steps_of.select_among w (behind front m) slot cases outcome
    ≡ next_behind front (steps_of.select_among w m slot cases outcome)
select_behind w front m slot cases outcome =
    came_behind w front (with_sched outcome.after m)
    (λ index it. with_value slot (selected cases (Some index) it) (with_sched outcome.after m))
    (λ index it. with_value slot (selected cases (Some index) it) (with_sched outcome.after (behind front m)))
    (with_value slot (selected cases None None) (with_sched outcome.after m)) outcome.answer (λ index it. refl)

case_behind : (front : List ℕ) (m : Machine) (it : PlannedCase) → case_of (behind front m) it ≡ case_of m it
case_behind front m (case.Send channel value) = refl
case_behind front m (case.Receive channel null) = refl

cases_behind : (front : List ℕ) (m : Machine) (its : List PlannedCase) → cases_of (behind front m) its ≡ cases_of m its
cases_behind front m [] = refl
cases_behind front m (first ∷ others) =
    λ i. with_case (case_behind front m first i) (cases_behind front m others i)

-- ---- steps of a frame

stored_behind : (w : World) (front : List ℕ) (m : Machine) (slot : ℕ) (it : Comes Stores)
    → steps_of.gives_stored w (behind front m) slot it ≡ next_behind front (steps_of.gives_stored w m slot it)
stored_behind w front m slot (to it) = refl
stored_behind w front m slot (faults it) = meets_behind w it front m
stored_behind w front m slot nowhere = refl

value_behind : (w : World) (front : List ℕ) (m : Machine) (slot : ℕ) (it : Comes Val)
    → steps_of.gives w (behind front m) slot it ≡ next_behind front (steps_of.gives w m slot it)
value_behind w front m slot it = stored_behind w front m slot _

changes_behind : (w : World) (front : List ℕ) (m : Machine) (it : Comes Stored)
    → steps_of.changes w (behind front m) it ≡ next_behind front (steps_of.changes w m it)
changes_behind w front m (to it) = refl
changes_behind w front m (faults it) = meets_behind w it front m
changes_behind w front m nowhere = refl

channel_behind : (w : World) (front : List ℕ) (m : Machine) (slot : ℕ) (it : Comes making.Channels)
    → steps_of.gives_channel w (behind front m) slot it ≡ next_behind front (steps_of.gives_channel w m slot it)
channel_behind w front m slot (to it) = refl
channel_behind w front m slot (faults it) = meets_behind w it front m
channel_behind w front m slot nowhere = refl

conversion_behind : (front : List ℕ) (m : Machine) (of : ConvertForm) (it : Arg)
    → steps_of.conversion (behind front m) of it ≡ steps_of.conversion m of it
conversion_behind front m (convert.Int kind) it = refl
conversion_behind front m convert.IntToText it = refl
conversion_behind front m convert.BytesToText it = refl
conversion_behind front m convert.RunesToText it = refl
conversion_behind front m convert.TextToBytes it = refl
conversion_behind front m convert.TextToRunes it = refl

bound_behind : {A : Type 0} (front : List ℕ) (m : Machine) (it : Option Arg) (next : Option ℤ → Comes A)
    → with_bound (behind front m) it next ≡ with_bound m it next
bound_behind front m None next = refl
bound_behind front m (Some it) next = refl

cut_behind : (front : List ℕ) (m : Machine) (form : CutForm) (it : Arg) (bounds : Bounds)
    → steps_of.cut_of (behind front m) form it bounds ≡ steps_of.cut_of m form it bounds
cut_behind front m form it bounds =
    λ i. with_one m it (λ whole.
    bound_behind front m bounds.low (λ low. bound_behind front m bounds.high (λ high. bound_behind front m bounds.max
    (λ max. part_between (steps_of.length_of_cut form) whole (record { low = low; high = high; max = max })) i) i) i)

closure_behind : (front : List ℕ) (m : Machine) (id : FuncId) (captured : List Arg)
    → steps_of.make_closure (behind front m) id captured ≡ steps_of.make_closure m id captured
closure_behind front m id captured = ap (where_some _) (all_behind front m captured)

set_behind : (front : List ℕ) (slot : ℕ) (it : Val) (others : Option Machine)
    → option_map (with_value slot it) (option_map (behind front) others)
    ≡ option_map (behind front) (option_map (with_value slot it) others)
set_behind front slot it None = refl
set_behind front slot it (Some m) = refl

phis_with : (front : List ℕ) (slot : ℕ) (it : Option Val) (others others' : Option Machine)
    → others' ≡ option_map (behind front) others
    → option_and_then (λ it. option_map (with_value slot it) others') it
    ≡ option_map (behind front) (option_and_then (λ it. option_map (with_value slot it) others) it)
phis_with front slot None others others' h = refl
phis_with front slot (Some it) others others' h =
    ap (option_map (with_value slot it)) h ∙ set_behind front slot it others

phis_behind : (front : List ℕ) (before : Machine) (from : ℕ) (phis : List PlannedPhi) (m : Machine)
    → steps_of.with_phis (behind front before) from phis (behind front m)
    ≡ option_map (behind front) (steps_of.with_phis before from phis m)
phis_behind front before from [] m = refl
phis_behind front before from (phi ∷ phis) m =
    phis_with front phi.to (steps_of.edge_value before from phi) (steps_of.with_phis before from phis m)
    (steps_of.with_phis (behind front before) from phis (behind front m)) (phis_behind front before from phis m)

block_behind : (from : ℕ) (block : PlannedBlock) (front : List ℕ) → StaysBehind front (steps_of.enters_block from block)
block_behind from block front m =
    ap (where_there goes) (phis_behind front m from block.phis.items m)
    ∙ mapped_there front goes (steps_of.with_phis m from block.phis.items m) (λ m. refl)

from_jump_behind : (front : List ℕ) (at : ℕ) (m : Machine) (frames : List Frame)
    → steps_of.jumps_from at (behind front m) frames ≡ next_behind front (steps_of.jumps_from at m frames)
from_jump_behind front at m [] = refl
from_jump_behind front at m (top ∷ below) =
    there_behind front _ _ (slice_get top.function.blocks.items at)
    (λ block. block_behind top.block block front (with_frames (at_block at top ∷ below) m))

jumps_behind : (at : ℕ) (front : List ℕ) → StaysBehind front (steps_of.jumps at)
jumps_behind at front m = from_jump_behind front at m m.current.frames

branches_behind : (front : List ℕ) (m : Machine) (one other : ℕ) (it : Val)
    → steps_of.branches (behind front m) one other it ≡ next_behind front (steps_of.branches m one other it)
branches_behind front m one other (vals.truth it) =
    either_behind front it _ _ _ _ (jumps_behind one front m) (jumps_behind other front m)
branches_behind front m one other _ = refl

finishes_behind : (w : World) (front : List ℕ) (m : Machine) (slot : Option ℕ) (it : Comes Done)
    → steps_of.finishes w (behind front m) slot it ≡ next_behind front (steps_of.finishes w m slot it)
finishes_behind w front m slot (to it) =
    ap (λ (output : List ℕ). goes (with_result slot it.value (record m { store = it.store; output = output })))
    (append_assoc front m.output it.written)
    ∙ ap goes (result_behind front slot it.value (record m { store = it.store; output = m.output ++ it.written }))
finishes_behind w front m slot (faults it) = meets_behind w it front m
finishes_behind w front m slot nowhere = refl

panic_of_behind : (w : World) (front : List ℕ) (m : Machine) (arguments : List Val)
    → steps_of.panic_of w (behind front m) arguments ≡ next_behind front (steps_of.panic_of w m arguments)
panic_of_behind w front m [] = refl
panic_of_behind w front m (it ∷ []) = panics_behind w it front m
panic_of_behind w front m _ = refl

recovers_behind : (front : List ℕ) (m : Machine) (slot : Option ℕ) (frames : List Frame)
    → steps_of.recovers_in (behind front m) slot frames ≡ next_behind front (steps_of.recovers_in m slot frames)
recovers_behind front m slot [] = refl
recovers_behind front m slot (top ∷ below) =
    either_behind front (may_recover top) _ _ _ _
    (ap goes (result_behind front slot (Some (recovered below)) (with_frames (top ∷ recovering below) m)))
    (ap goes (result_behind front slot (Some vals.nil_interface) m))

built_in_behind : (w : World) (front : List ℕ) (m : Machine) (slot : Option ℕ) (it : BuiltinForm) (arguments : List Val)
    → steps_of.calls_built_in w (behind front m) slot it arguments
    ≡ next_behind front (steps_of.calls_built_in w m slot it arguments)
built_in_behind w front m slot form.Close arguments = close_behind w front m arguments
built_in_behind w front m slot form.Panic arguments = panic_of_behind w front m arguments
built_in_behind w front m slot form.Recover arguments = recovers_behind front m slot m.current.frames
built_in_behind w front m slot it arguments =
    finishes_behind w front m slot (built_in_call w.answers m.store m.sched it arguments)

calls_behind : (w : World) (front : List ℕ) (m : Machine) (slot : Option ℕ) (it : Later) (called : Called)
    → steps_of.calls w (behind front m) slot it called ≡ next_behind front (steps_of.calls w m slot it called)
calls_behind w front m slot it (of_function n free) = enters_behind w (entry_of n free it false slot m) front m
calls_behind w front m slot it (of_built_in called) = built_in_behind w front m slot called it.arguments
calls_behind w front m slot it of_nil = meets_behind w fault.NilPointer front m

puts_off_behind : (front : List ℕ) (m : Machine) (it : Later) (frames : List Frame)
    → steps_of.puts_off it frames (behind front m) ≡ next_behind front (steps_of.puts_off it frames m)
puts_off_behind front m it [] = refl
puts_off_behind front m it (top ∷ below) = refl

defers_behind : (front : List ℕ) (m : Machine) (frames : List Frame)
    → steps_of.runs_defers frames (behind front m) ≡ next_behind front (steps_of.runs_defers frames m)
defers_behind front m [] = refl
defers_behind front m (top ∷ below) = refl

acts_behind : (w : World) (front : List ℕ) (m : Machine) (it : Step)
    → acts w (behind front m) it ≡ next_behind front (acts w m it)
unfolding acts
acts_behind w front m (act.New null slot) = stored_behind w front m slot (to (steps_of.new_cell m null))
acts_behind w front m (act.Arithmetic op kind left right slot) =
    value_behind w front m slot (steps_of.arithmetic m op kind left right)
acts_behind w front m (act.Shift left kind it count slot) = value_behind w front m slot (steps_of.shift m left kind it count)
acts_behind w front m (act.Join left right slot) = value_behind w front m slot (steps_of.join m left right)
acts_behind w front m (act.CompareInts op left right slot) =
    value_behind w front m slot (steps_of.compare_integers m op left right)
acts_behind w front m (act.CompareTexts op left right slot) =
    value_behind w front m slot (steps_of.compare_texts m op left right)
acts_behind w front m (act.Equal wanted left right slot) =
    value_behind w front m slot (steps_of.are_equal w m wanted left right)
acts_behind w front m (act.Negate kind it slot) = value_behind w front m slot _
acts_behind w front m (act.Complement kind it slot) = value_behind w front m slot _
acts_behind w front m (act.Not it slot) = value_behind w front m slot _
acts_behind w front m (act.Load at slot) = value_behind w front m slot _
acts_behind w front m (act.Store at it) = changes_behind w front m _
acts_behind w front m (act.Field it field slot) = value_behind w front m slot _
acts_behind w front m (act.FieldAddress it field slot) = value_behind w front m slot _
acts_behind w front m (act.Element it index slot) = value_behind w front m slot _
acts_behind w front m (act.Byte it index slot) = value_behind w front m slot _
acts_behind w front m (act.SliceElement it index slot) = value_behind w front m slot _
acts_behind w front m (act.ArrayElement it index len slot) = value_behind w front m slot _
acts_behind w front m (act.Lookup it key null comma_ok slot) = value_behind w front m slot _
acts_behind w front m (act.Update it key new) = changes_behind w front m _
acts_behind w front m (act.Cut form it bounds slot) =
    ap (steps_of.gives w (behind front m) slot) (cut_behind front m form it bounds.value)
    ∙ value_behind w front m slot (steps_of.cut_of m form it bounds.value)
acts_behind w front m (act.Convert form it slot) =
    ap (steps_of.gives_stored w (behind front m) slot) (conversion_behind front m form it)
    ∙ stored_behind w front m slot (steps_of.conversion m form it)
acts_behind w front m (act.Keep it slot) = value_behind w front m slot _
acts_behind w front m (act.MakeInterface of it slot) = value_behind w front m slot _
acts_behind w front m (act.Closure id captured slot) =
    ap (steps_of.gives w (behind front m) slot) (closure_behind front m id captured.items)
    ∙ value_behind w front m slot (steps_of.make_closure m id captured.items)
acts_behind w front m (act.Bind target is_interface receiver slot) = value_behind w front m slot _
acts_behind w front m (act.MakeMap slot) = stored_behind w front m slot (to (steps_of.new_map m))
acts_behind w front m (act.MakeChan leaves size slot) = channel_behind w front m slot _
acts_behind w front m (act.MakeSlice null leaves len cap slot) = stored_behind w front m slot _
acts_behind w front m (act.Assert it wanted null comma_ok slot) =
    value_behind w front m slot (steps_of.assert_type w m it wanted null comma_ok)
acts_behind w front m (act.Call call slot) =
    later_behind w front m call (λ it. steps_of.calls w m slot it it.called)
    (λ it. steps_of.calls w (behind front m) slot it it.called) (λ it. calls_behind w front m slot it it.called)
acts_behind w front m (act.Go call) =
    later_behind w front m call (steps_of.starts_call w m) (steps_of.starts_call w (behind front m))
    (λ it. switches_behind w point.After front (with_new it m))
acts_behind w front m (act.Defer call) =
    later_behind w front m call (λ it. steps_of.puts_off it m.current.frames m)
    (λ it. steps_of.puts_off it m.current.frames (behind front m)) (λ it. puts_off_behind front m it m.current.frames)
acts_behind w front m act.RunDefers = defers_behind front m m.current.frames
acts_behind w front m (act.Send channel it) =
    there_behind front (λ channel. where_there (steps_of.send_on w m channel) (look m it))
    (λ channel. where_there (steps_of.send_on w (behind front m) channel) (look m it)) (look m channel)
    (λ channel. there_behind front (steps_of.send_on w m channel) (steps_of.send_on w (behind front m) channel) (look m it)
    (λ it. send_behind w front m channel it))
acts_behind w front m (act.Receive channel null comma_ok slot) =
    there_behind front (steps_of.receive_from w m slot null comma_ok)
    (steps_of.receive_from w (behind front m) slot null comma_ok) (look m channel)
    (λ it. receive_behind w front m slot null comma_ok it)
acts_behind w front m (act.Select blocking cases slot) =
    ap (where_there (λ operations. steps_of.select_among w (behind front m) slot cases.items
    (selects m.sched operations (not blocking)))) (cases_behind front m cases.items)
    ∙ there_behind front
    (λ operations. steps_of.select_among w m slot cases.items (selects m.sched operations (not blocking)))
    (λ operations. steps_of.select_among w (behind front m) slot cases.items (selects m.sched operations (not blocking)))
    (cases_of m cases.items)
    (λ operations. select_behind w front m slot cases.items (selects m.sched operations (not blocking)))
acts_behind w front m (act.Range it slot) = value_behind w front m slot _
acts_behind w front m (act.NextText range slot) =
    there_behind front (steps_of.turns m range slot) (steps_of.turns (behind front m) range slot) _ (λ it. refl)
acts_behind w front m (act.NextMap range key it slot) =
    there_behind front (steps_of.turns m range slot) (steps_of.turns (behind front m) range slot) _ (λ it. refl)
acts_behind w front m (act.Extract it part slot) = value_behind w front m slot _
acts_behind w front m act.Tick = spends_behind front goes (λ m. refl) m
acts_behind w front m (act.Jump at) = jumps_behind at front m
acts_behind w front m (act.If test one other) =
    there_behind front (steps_of.branches m one other) (steps_of.branches (behind front m) one other) (look m test)
    (λ it. branches_behind front m one other it)
acts_behind w front m (act.Return values) =
    ap (where_there (λ results. returned results m.current.frames (behind front m))) (all_behind front m values.items)
    ∙ there_behind front (λ results. returned results m.current.frames m)
    (λ results. returned results m.current.frames (behind front m)) (look_at_all m values.items)
    (λ results. returned_behind front m results m.current.frames)
acts_behind w front m (act.Panic it) =
    there_behind front (panics_with w m) (panics_with w (behind front m)) (look m it) (λ it. panics_behind w it front m)

-- ---- a step

alone_behind : (w : World) (front : List ℕ) (m : Machine) (it : BuiltinForm) (arguments : List Val)
    → steps_of.alone w (behind front m) it arguments ≡ next_behind front (steps_of.alone w m it arguments)
alone_behind w front m form.Recover arguments = refl
alone_behind w front m it arguments = built_in_behind w front m None it arguments

makes_behind : (w : World) (front : List ℕ) (m : Machine) (it : Later) (deferred : Bool) (called : Called)
    → steps_of.makes w (behind front m) it deferred called ≡ next_behind front (steps_of.makes w m it deferred called)
makes_behind w front m it deferred (of_function n free) =
    enters_behind w (entry_of n free it deferred None m) front m
makes_behind w front m it deferred (of_built_in called) = alone_behind w front m called it.arguments
makes_behind w front m it deferred of_nil = meets_behind w fault.NilPointer front m

unwinds_behind : (w : World) (front : List ℕ) (m : Machine) (top : Frame) (below : List Frame) (defers : List Later)
    → steps_of.unwinds w (behind front m) top below defers ≡ next_behind front (steps_of.unwinds w m top below defers)
unwinds_behind w front m top below [] = unwound_behind w front m top below top.state
unwinds_behind w front m top below (first ∷ others) =
    makes_behind w front
    (with_frames (record top { defers = steps_of.front_of first others } ∷ below) m)
    (steps_of.last_of first others) true (steps_of.last_of first others).called

does_behind : (w : World) (front : List ℕ) (m : Machine) (top : Frame) (below : List Frame) (it : Option Step)
    → steps_of.does w (behind front m) top below it ≡ next_behind front (steps_of.does w m top below it)
does_behind w front m top below None = refl
does_behind w front m top below (Some it) = acts_behind w front (with_frames (advanced top ∷ below) m) it

moves_behind : (w : World) (front : List ℕ) (m : Machine) (top : Frame) (below : List Frame) (state : FrameState)
    → steps_of.moves w (behind front m) top below state ≡ next_behind front (steps_of.moves w m top below state)
moves_behind w front m top below running = does_behind w front m top below (slice_get top.steps top.step)
moves_behind w front m top below returning = unwinds_behind w front m top below top.defers
moves_behind w front m top below (panicking thrown) = unwinds_behind w front m top below top.defers

starts_behind : (w : World) (front : List ℕ) (m : Machine) (it : Option ℕ)
    → steps_of.starts_next w (behind front m) it ≡ next_behind front (steps_of.starts_next w m it)
starts_behind w front m None = refl
starts_behind w front m (Some n) = enters_behind w (steps_of.first_entry n) front (record m { started = suc m.started })

begins_behind : (w : World) (front : List ℕ) (m : Machine) (it : Option Later)
    → steps_of.begins w (behind front m) it ≡ next_behind front (steps_of.begins w m it)
begins_behind w front m None =
    either_behind front (m.sched.current.number == 0) _ _ _ _
    (starts_behind w front m (slice_get w.plan.starts.items m.started)) (switches_behind w point.Ended front m)
begins_behind w front m (Some it) =
    makes_behind w front (with_current (record (m.current) { begin = None }) m) it false it.called

on_behind : (w : World) (front : List ℕ) (m : Machine) (frames : List Frame)
    → steps_of.steps_on w (behind front m) frames ≡ next_behind front (steps_of.steps_on w m frames)
on_behind w front m [] = begins_behind w front m m.current.begin
on_behind w front m (top ∷ below) = moves_behind w front m top below top.state

pub step_behind : (w : World) (front : List ℕ) (m : Machine) → step w (behind front m) ≡ next_behind front (step w m)
unfolding step
step_behind w front m = on_behind w front m m.current.frames

-- ---- steps

then_behind_next : (w : World) (front : List ℕ) (next : Machine → Next) (it : Next) → StaysBehind front next
    → then_step next (next_behind front it) ≡ next_behind front (then_step next it)
then_behind_next w front next (goes m) h = h m
then_behind_next w front next (ends e o) h = refl
then_behind_next w front next stuck h = refl

pub fronts : FrontsStand
fronts w front zero m = refl
fronts w front (suc n) m =
    ap (then_step (steps n w)) (step_behind w front m)
    ∙ then_behind_next w front (steps n w) (step w m) (λ m. fronts w front n m)

joined : (one two : Machine → Next) (both : Machine → Next) (it : Next) → ((m : Machine) → both m ≡ then_step two (one m))
    → then_step both it ≡ then_step two (then_step one it)
joined one two both (goes m) h = h m
joined one two both (ends e o) h = refl
joined one two both stuck h = refl

pub follow : StepsFollow
follow w zero k m = ap (λ count. steps count w m) (zero-add k)
follow w (suc n) k m =
    ap (λ count. steps count w m) (suc-add n k)
    ∙ joined (steps n w) (steps k w) (steps (n + k) w) (step w m) (λ m. follow w n k m)
