-- One step of the machine: an instruction of the frame that runs, or what a frame that returns or panics does, or what
-- a goroutine without frames does. What each instruction is for says the documentation of golang.org/x/tools/go/ssa
-- under the name of its type; what it gives, the Go specification in the sections that the other files name.
use Rattle.std.specs.Prelude.{ℕ, ◌==◌, Bool, true, false, not, List, [], ◌∷◌, ◌++◌, ℤ, Option, Some, None}
use Rattle.std.specs.Prelude.{length, slice_get, if◌then◌else◌, option_map}
use Rattle.std.specs.List.{find}
use Rattle.std.specs.Option.{option_and_then}
use Rattle.go_base.specs.declared.ending.Ending.TheVariants as ending
use Rattle.go_base.specs.declared.ids.BlockId.{BlockId}
use Rattle.go_base.specs.declared.ids.FuncId.{FuncId}
use Rattle.go_base.specs.declared.ids.TypeId.{TypeId}
use Rattle.go_sched.specs.Goroutines.{State}
use Rattle.go_sched.specs.Operations.{Outcome, sends, receives, closes, selects}
use Rattle.go_sched.specs.declared.scheduling.Point.TheVariants as point
use Rattle.go_store.specs.Stores.{Stored, made}
use Rattle.go_type.specs.Kinds.{kind_of}
use Rattle.go_type.specs.declared.kinds.IntKind.{IntKind}
use Rattle.go_type.specs.declared.operators.Builtin.TheVariants as builtin
use Rattle.go_value.specs.Interfaces.{converted}
use Rattle.go_value.specs.Values.{Val, truth, number, pointer, map_number, chan_number, nil_interface}
use Rattle.go_value.specs.declared.faults.Fault.TheVariants as fault
use Rattle.ssa_ir.specs.Blocks.{instrs_at}
use Rattle.ssa_ir.specs.declared.code.Code.{Code}
use Rattle.ssa_ir.specs.declared.code.Function.{Function}
use Rattle.ssa_ir.specs.declared.operands.Operand.{Operand}
use Rattle.ssa_ir.specs.declared.operands.Operand.TheVariants as operand
use Rattle.ssa_ir.specs.declared.ops.Instr.{Instr}
use Rattle.ssa_ir.specs.declared.ops.Op.{Op}
use Rattle.ssa_ir.specs.declared.ops.Op.TheVariants as op
use Rattle.ssa_ir.specs.declared.ops.PhiEdge.{PhiEdge}
use Rattle.ssa_ir.specs.declared.ops.SelectCase.{SelectCase}
use Rattle.ssa_mean.specs.Answers.{Answers}
use Rattle.ssa_mean.specs.Arithmetic.{binary, unary_of}
use Rattle.ssa_mean.specs.BuiltIns.{Done, built_in_call}
use Rattle.ssa_mean.specs.Calls.{Entry, readied, enters, entry_of, given, with_new}
use Rattle.ssa_mean.specs.Channels.{received, selected, cases_of, came_to, behind, with_sched}
use Rattle.ssa_mean.specs.Comes.{Comes, to, faults, nowhere, of_option, of_result, then_to, where_some}
use Rattle.ssa_mean.specs.Conversions.{Stores, kept, conversion}
use Rattle.ssa_mean.specs.Making.{Channels, value_or, held_as, assertion, closed_over, leaves_of, made_chan, made_slice}
use Rattle.ssa_mean.specs.MapCalls.{looked_up, updated, made_map}
use Rattle.ssa_mean.specs.Operands.{function_at, value_of, values_of, type_of, under, term_of, pointed_length}
use Rattle.ssa_mean.specs.Operands.{element_type, element_in}
use Rattle.ssa_mean.specs.Places.{load, assigned, new_pointer, field_of, field_address, index_of, index_address}
use Rattle.ssa_mean.specs.Places.{part_between}
use Rattle.ssa_mean.specs.Ranges.{Turn, range_of, ranged, next_turn}
use Rattle.ssa_mean.specs.State.{BuiltIn, plain, Callee, of_function, of_built_in, of_nil, Later, Frame, FrameState}
use Rattle.ssa_mean.specs.State.{running}
use Rattle.ssa_mean.specs.State.{returning, Goroutine, Machine, Next, goes, ends, stuck, where_there, current}
use Rattle.ssa_mean.specs.State.{with_current, with_frames, with_register, with_result, advanced}
use Rattle.ssa_mean.specs.Unwinding.{is_phi, at_block, meets, panics_with, spends, switches, unwound, recovering}
use Rattle.ssa_mean.specs.Unwinding.{recovered, may_recover}
use Rattle.ssa_mean.specs.Zeros.{zero_of, zero_where}

-- where a step is made: the frame that runs, its function, the frames below it, and all the rest
pub record Site : Type 0 where
  pub code : Code
  pub answers : Answers
  pub machine : Machine
  pub goroutine : Goroutine
  pub below : List Frame
  pub frame : Frame
  pub function : Function

-- ---- operands

abbrev pub value : Site → Operand → Option Val
value s it = value_of s.code s.frame it

-- what is made of the values of operands
abbrev pub with_one : {A : Type 0} → Site → Operand → (Val → Comes A) → Comes A
with_one s it next = where_some next (value s it)

abbrev pub with_two : {A : Type 0} → Site → Operand → Operand → (Val → Val → Comes A) → Comes A
with_two s first second next = where_some (λ a. where_some (λ b. next a b) (value s second)) (value s first)

abbrev pub with_integer : {A : Type 0} → Site → Operand → (ℤ → Comes A) → Comes A
with_integer s it next = with_one s it (on_integer next)
  where
    on_integer : {A : Type 0} → (ℤ → Comes A) → Val → Comes A
    on_integer next (number n) = next n
    on_integer next _ = nowhere

-- a place of a slice expression, where it is not left out
abbrev pub with_bound : {A : Type 0} → Site → Option Operand → (Option ℤ → Comes A) → Comes A
with_bound s None next = next None
with_bound s (Some it) next = with_integer s it (λ n. next (Some n))

abbrev pub kind_at : Site → Operand → Option IntKind
kind_at s it = option_and_then (kind_of s.code.types) (type_of s.code s.function it)

-- ---- how the frame goes on

-- behind its instruction, where its register gets a value
abbrev pub goes_behind : Site → Option ℕ → Option Val → Machine → Next
goes_behind s register it m = goes (with_frames s.goroutine (advanced (with_result register it s.frame) ∷ s.below) m)

-- an instruction that gives a value and changes the store
abbrev pub gives_stored : Site → Option ℕ → Comes Stores → Next
gives_stored s register (to it) = goes_behind s register (Some it.value) (record (s.machine) { store = it.store })
gives_stored s register (faults it) = meets s.code s.machine it
gives_stored s register nowhere = stuck

-- one that gives a value alone
abbrev pub gives_value : Site → Option ℕ → Comes Val → Next
gives_value s register it = gives_stored s register (then_to (kept s.machine.store) it)

-- one that changes the store alone
abbrev pub changes_store : Site → Comes Stored → Next
changes_store s (to store) = goes_behind s None None (record (s.machine) { store = store })
changes_store s (faults it) = meets s.code s.machine it
changes_store s nowhere = stuck

-- one that makes a channel
abbrev pub gives_channel : Site → Option ℕ → Comes Channels → Next
gives_channel s register (to it) = goes_behind s register (Some it.value) (record (s.machine) { sched = it.sched })
gives_channel s register (faults it) = meets s.code s.machine it
gives_channel s register nowhere = stuck

-- ---- instructions that give values

abbrev pub new_cell : Site → TypeId → Comes Stores
new_cell s of =
    then_to (λ it. record { value = pointer (new_pointer s.machine.store); store = made s.machine.store it })
    (of_option (zero_of s.code of))

abbrev pub new_map : Site → Stores
new_map s =
    record {
      value = map_number (Some (record { number = length s.machine.store.maps }));
      store = made_map s.machine.store;
    }

abbrev pub look_up : Site → Operand → Bool → Val → Val → Comes Val
look_up s operand comma_ok (map_number id) key =
    where_some (λ other. then_to (λ found. value_or comma_ok found other)
    (looked_up s.answers.comparable s.machine.store id key))
    (zero_where s.code (element_type s.code s.function operand))
look_up s operand comma_ok _ key = nowhere

abbrev pub update : Site → Val → Val → Val → Comes Stored
update s (map_number id) key it = updated s.answers.comparable s.machine.store id key it
update s _ key it = nowhere

abbrev pub slice_part : Site → Operand → Option Operand → Option Operand → Option Operand → Comes Val
slice_part s it low high max =
    with_one s it (λ whole. with_bound s low (λ low. with_bound s high (λ high. with_bound s max (λ max.
    part_between (pointed_length s.code s.function it) whole (record { low = low; high = high; max = max })))))

abbrev pub convert : Site → TypeId → Operand → Comes Stores
convert s of it = with_one s it (conversion s.code.types s.machine.store (term_of s.code s.function it) of)

abbrev pub make_interface : Site → Operand → Comes Val
make_interface s it =
    with_one s it (λ inner. where_some (λ of. of_result (converted s.code.types of inner))
    (type_of s.code s.function it))

abbrev pub make_closure : Site → FuncId → List Operand → Comes Val
make_closure s id captured =
    where_some (λ function. where_some (closed_over s.code.types id function function.kind)
    (values_of s.code s.frame captured)) (function_at s.code id)

abbrev pub make_chan : Site → TypeId → Operand → Comes Channels
make_chan s of size =
    where_some (λ elem. with_integer s size (made_chan (leaves_of s.code.types elem) s.machine.sched))
    (element_in (under s.code (Some of)))

abbrev pub make_slice : Site → TypeId → Operand → Operand → Comes Stores
make_slice s of len cap =
    where_some (λ elem. where_some (λ zero_value. with_integer s len (λ len. with_integer s cap (λ cap.
    made_slice (leaves_of s.code.types elem) s.machine.store zero_value len cap))) (zero_of s.code elem))
    (element_in (under s.code (Some of)))

abbrev pub assert_type : Site → Operand → TypeId → Bool → Comes Val
assert_type s it wanted comma_ok =
    with_one s it (λ it. where_some (assertion comma_ok it wanted (held_as s.code.types s.answers it wanted))
    (zero_of s.code wanted))

-- ---- blocks: all phis are read before one is written

abbrev pub edge_value : Site → List PhiEdge → Option Val
edge_value s edges =
    option_and_then (λ edge. value s edge.value) (find (λ edge. edge.from.number == s.frame.block) edges)

abbrev pub phi_value : Site → Op → Option Val
phi_value s (op.Phi edges) = edge_value s edges
phi_value s _ = None

-- the frame with the values of the phis among the instructions; the first is written last
abbrev pub with_phis : Site → List Instr → Frame → Option Frame
with_phis s [] frame = Some frame
with_phis s (instr ∷ instrs) frame =
    option_and_then (λ it. option_map (with_result instr.register (Some it)) (with_phis s instrs frame))
    (phi_value s instr.op)

abbrev pub front_phis : List Instr → List Instr
front_phis [] = []
front_phis (instr ∷ instrs) = if is_phi instr.op then instr ∷ front_phis instrs else []

abbrev pub jumps : Site → BlockId → Next
jumps s block =
    where_there (λ frame. goes (with_frames s.goroutine (at_block s.function block.number frame ∷ s.below) s.machine))
    (with_phis s (front_phis (instrs_at s.function block.number)) s.frame)

abbrev pub branches : Site → BlockId → BlockId → Val → Next
branches s then_to else_to (truth it) = if it then jumps s then_to else jumps s else_to
branches s then_to else_to _ = stuck

-- ---- calls

-- the machine with the top frame behind its instruction
abbrev pub behind_call : Site → Machine
behind_call s = with_frames s.goroutine (advanced s.frame ∷ s.below) s.machine

-- what is written is put behind the output
abbrev pub finishes : Site → Option ℕ → Comes Done → Next
finishes s register (to it) =
    goes_behind s register it.value
    (record (s.machine) { store = it.store; output = s.machine.output ++ it.written })
finishes s register (faults it) = meets s.code s.machine it
finishes s register nowhere = stuck

abbrev pub close_of : Code → Machine → Machine → List Val → Next
close_of code m next (chan_number id ∷ []) =
    let outcome = closes m.sched id in
    came_to code m (λ index it. Some (with_sched outcome.after next)) None outcome.answer
close_of code m next _ = stuck

abbrev pub panic_of : Code → Machine → List Val → Next
panic_of code m (it ∷ []) = panics_with code m it
panic_of code m _ = stuck

abbrev pub recovers : Site → Option ℕ → Next
recovers s register =
    if may_recover s.code s.frame
    then goes (with_frames s.goroutine
    (advanced (with_result register (Some (recovered s.code s.below)) s.frame) ∷ recovering s.code s.below) s.machine)
    else goes_behind s register (Some nil_interface) s.machine

-- a built-in function that an instruction calls
abbrev pub calls_built_in : Site → Option ℕ → BuiltIn → List Val → Next
calls_built_in s register (plain builtin.Close) arguments = close_of s.code s.machine (behind_call s) arguments
calls_built_in s register (plain builtin.Panic) arguments = panic_of s.code s.machine arguments
calls_built_in s register (plain builtin.Recover) arguments = recovers s register
calls_built_in s register it arguments =
    finishes s register (built_in_call s.answers s.machine.store s.machine.sched it arguments)

abbrev pub calls : Site → Option ℕ → Later → Callee → Next
calls s register it (of_function id free) =
    enters s.code (behind_call s) (entry_of s.code s.machine id free it false register)
calls s register it (of_built_in called) = calls_built_in s register called it.arguments
calls s register it of_nil = meets s.code s.machine fault.NilPointer

-- a call that is readied is made, or put off
abbrev pub with_later : Site → Comes Later → (Later → Next) → Next
with_later s (to it) next = next it
with_later s (faults it) next = meets s.code s.machine it
with_later s nowhere next = stuck

abbrev pub defers_call : Site → Later → Next
defers_call s it =
    goes (with_frames s.goroutine (advanced (record (s.frame) { defers = it ∷ s.frame.defers }) ∷ s.below) s.machine)

-- a frame that put calls off makes them now
abbrev pub returning_where : Frame → List Later → Frame
returning_where frame [] = frame
returning_where frame (it ∷ others) = record frame { state = returning }

abbrev pub starts_call : Site → Later → Next
starts_call s it = switches s.code point.After (with_new it (behind_call s))

abbrev pub returns : Site → List Val → Next
returns s results = goes (with_frames s.goroutine (given s.frame results s.below) s.machine)

-- ---- channels

abbrev pub behind_with : Site → Option ℕ → State → Option Val → Machine
behind_with s register sched it = behind s.goroutine s.below s.frame register it (with_sched sched s.machine)

abbrev pub send_on : Site → Val → Val → Next
send_on s (chan_number id) it =
    let outcome = sends 0 it s.machine.sched id in
    came_to s.code (with_sched outcome.after s.machine) (λ index it. Some (behind_with s None outcome.after None)) None
    outcome.answer
send_on s _ it = stuck

abbrev pub receive_from : Site → Option ℕ → Operand → Bool → Val → Next
receive_from s register operand comma_ok (chan_number id) =
    let outcome = receives 0 s.machine.sched id in
    came_to s.code (with_sched outcome.after s.machine)
    (λ index it. option_map (λ given. behind_with s register outcome.after (Some given))
    (received s.code s.function operand comma_ok it))
    None outcome.answer
receive_from s register operand comma_ok _ = stuck

abbrev pub select_among : Site → Option ℕ → Bool → List SelectCase → Outcome → Next
select_among s register blocking cases outcome =
    came_to s.code (with_sched outcome.after s.machine)
    (λ index it. option_map (λ given. behind_with s register outcome.after (Some given))
    (selected s.code s.function cases (Some index) it))
    (option_map (λ given. behind_with s register outcome.after (Some given))
    (selected s.code s.function cases None None))
    outcome.answer

abbrev pub selects_of : Site → Option ℕ → Bool → List SelectCase → Next
selects_of s register blocking cases =
    where_there (λ operations. select_among s register blocking cases
    (selects s.machine.sched operations (not blocking))) (cases_of s.code s.frame cases)

-- ---- ranges: `next` puts the state of the range into the register that it has it from

abbrev pub turns : Site → Option ℕ → ℕ → Turn → Next
turns s register range it =
    goes (with_frames s.goroutine
    (advanced (with_result register (Some it.value) (with_register range it.range s.frame)) ∷ s.below)
    (with_sched it.sched s.machine))

abbrev pub next_of : Site → Option ℕ → Operand → Next
next_of s register (operand.Register range) =
    where_there (turns s register range)
    (option_and_then (next_turn s.code s.machine.store s.machine.sched
    (ranged s.code (term_of s.code s.function (operand.Register range)))) (value s (operand.Register range)))
next_of s register _ = stuck

-- ---- the instructions

unfoldable pub acts : Site → Option ℕ → Op → Next
acts s register (op.New of) = gives_stored s register (new_cell s of)
acts s register (op.Phi edges) = stuck
acts s register (op.Binary o left right) =
    gives_value s register (with_two s left right (binary s.answers (kind_at s left) o))
acts s register (op.Unary o it) = gives_value s register (with_one s it (unary_of (kind_at s it) o))
acts s register (op.Load at) = gives_value s register (with_one s at (load s.machine.store))
acts s register (op.Store at it) = changes_store s (with_two s at it (assigned s.machine.store))
acts s register (op.Field it field) = gives_value s register (with_one s it (λ it. field_of it field))
acts s register (op.FieldAddress it field) = gives_value s register (with_one s it (λ it. field_address it field))
acts s register (op.Index it index) = gives_value s register (with_two s it index index_of)
acts s register (op.IndexAddress it index) =
    gives_value s register (with_two s it index (index_address (pointed_length s.code s.function it)))
acts s register (op.Lookup it key comma_ok) = gives_value s register (with_two s it key (look_up s it comma_ok))
acts s register (op.Update it key new) =
    changes_store s (with_two s it key (λ it key. with_one s new (update s it key)))
acts s register (op.Slice it low high max) = gives_value s register (slice_part s it low high max)
acts s register (op.Convert of it) = gives_stored s register (convert s of it)
acts s register (op.ChangeType of it) = gives_value s register (with_one s it to)
acts s register (op.MakeInterface of it) = gives_value s register (make_interface s it)
acts s register (op.ChangeInterface of it) = gives_value s register (with_one s it to)
acts s register (op.MakeClosure id captured) = gives_value s register (make_closure s id captured)
acts s register (op.MakeMap of) = gives_stored s register (to (new_map s))
acts s register (op.MakeChan of size) = gives_channel s register (make_chan s of size)
acts s register (op.MakeSlice of len cap) = gives_stored s register (make_slice s of len cap)
acts s register (op.TypeAssert it of comma_ok) = gives_value s register (assert_type s it of comma_ok)
acts s register (op.Call call) =
    with_later s (readied s.code s.function s.frame call) (λ it. calls s register it it.callee)
acts s register (op.Go call) = with_later s (readied s.code s.function s.frame call) (starts_call s)
acts s register (op.Defer call) = with_later s (readied s.code s.function s.frame call) (defers_call s)
acts s register op.RunDefers =
    goes (with_frames s.goroutine (advanced (returning_where s.frame s.frame.defers) ∷ s.below) s.machine)
acts s register (op.Send channel it) =
    where_there (λ channel. where_there (send_on s channel) (value s it)) (value s channel)
acts s register (op.Receive channel comma_ok) =
    where_there (receive_from s register channel comma_ok) (value s channel)
acts s register (op.Select blocking cases) = selects_of s register blocking cases
acts s register (op.Range it) =
    gives_value s register (with_one s it (λ it. of_option (range_of s.machine.store it)))
acts s register (op.Next it) = next_of s register it
acts s register (op.Extract it part) = gives_value s register (with_one s it (λ it. field_of it part))
acts s register op.Tick = spends s.machine (goes_behind s None None)
acts s register (op.Jump block) = jumps s block
acts s register (op.If test then_to else_to) = where_there (branches s then_to else_to) (value s test)
acts s register (op.Return results) = where_there (returns s) (values_of s.code s.frame results)
acts s register (op.Panic it) = where_there (panics_with s.code s.machine) (value s it)

-- ---- calls that were put off, in the frame of the goroutine that makes them

abbrev pub wrote : Code → Machine → Comes Done → Next
wrote code m (to done) = goes (record m { store = done.store; output = m.output ++ done.written })
wrote code m (faults it) = meets code m it
wrote code m nowhere = stuck

-- a built-in function in a frame of its own, where `recover` gives nothing
abbrev pub alone : Answers → Code → Machine → BuiltIn → List Val → Next
alone answers code m (plain builtin.Close) arguments = close_of code m m arguments
alone answers code m (plain builtin.Panic) arguments = panic_of code m arguments
alone answers code m (plain builtin.Recover) arguments = goes m
alone answers code m it arguments = wrote code m (built_in_call answers m.store m.sched it arguments)

abbrev pub makes : Answers → Code → Machine → Later → Bool → Callee → Next
makes answers code m it deferred (of_function id free) = enters code m (entry_of code m id free it deferred None)
makes answers code m it deferred (of_built_in called) = alone answers code m called it.arguments
makes answers code m it deferred of_nil = meets code m fault.NilPointer

-- a frame that returns or panics makes its last deferred call
abbrev pub unwinds : Answers → Code → Machine → Goroutine → Frame → List Frame → List Later → Next
unwinds answers code m g top below [] = unwound code m g top below top.state
unwinds answers code m g top below (it ∷ others) =
    makes answers code (with_frames g (record top { defers = others } ∷ below) m) it true it.callee

-- a frame that runs does its instruction
abbrev pub does : Site → Option Instr → Next
does s None = stuck
does s (Some instr) = acts s instr.register instr.op

abbrev pub runs : Answers → Code → Machine → Goroutine → Frame → List Frame → Option Function → Next
runs answers code m g top below None = stuck
runs answers code m g top below (Some function) =
    does (record {
      code = code;
      answers = answers;
      machine = m;
      goroutine = g;
      below = below;
      frame = top;
      function = function;
    }) (slice_get (instrs_at function top.block) top.place)

abbrev pub moves : Answers → Code → Machine → Goroutine → Frame → List Frame → FrameState → Next
moves answers code m g top below running = runs answers code m g top below (function_at code top.function)
moves answers code m g top below _ = unwinds answers code m g top below top.defers

-- ---- a goroutine without frames: it begins; goroutine 0 goes on with what it is to call, and the run ends with it;
-- another ends, which is a switch point

abbrev pub first_entry : FuncId → Entry
first_entry id =
    record { function = id; free = []; arguments = []; deferred = false; result = None; chain = 0 }

abbrev pub starts_next : Code → Machine → List FuncId → Next
starts_next code m [] = ends (ending.Exited 0) m.output
starts_next code m (id ∷ others) = enters code (record m { starts = others }) (first_entry id)

abbrev pub ends_or_starts : Code → Machine → ℕ → Next
ends_or_starts code m goroutine =
    if goroutine == 0 then starts_next code m m.starts else switches code point.Ended m

abbrev pub begins : Answers → Code → Machine → Goroutine → Option Later → Next
begins answers code m g None = ends_or_starts code m m.sched.current.number
begins answers code m g (Some it) = makes answers code (with_current (record g { begin = None }) m) it false it.callee

-- ---- a step

abbrev pub steps_on : Answers → Code → Machine → Goroutine → List Frame → Next
steps_on answers code m g [] = begins answers code m g g.begin
steps_on answers code m g (top ∷ below) = moves answers code m g top below top.state

unfoldable pub step : Answers → Code → Machine → Next
step answers code m = where_there (λ g. steps_on answers code m g g.frames) (current m)
