-- Steps only add to the output.
use Rattle.std.proofs.Common.{◌≡◌, ℕ, zero, suc, List, [], ◌∷◌, ◌++◌, Option, Some, None, Bool, true, false, refl, sym, ◌∙◌}
use Rattle.std.proofs.Common.{ap, subst, append-nil, append_assoc}
use Rattle.std.specs.Prelude.{if◌then◌else◌, Result, Ok, Err, option_map, nat_lt, slice_get, not}
use Rattle.std.specs.Option.{option_and_then}
use Rattle.go_base.specs.declared.ending.Ending.{Ending}
use Rattle.go_base.specs.declared.ending.Ending.TheVariants as ending
use Rattle.go_base.specs.declared.ids.BlockId.{BlockId}
use Rattle.go_base.specs.declared.ids.FuncId.{FuncId}
use Rattle.go_base.specs.declared.ids.GoId.{GoId}
use Rattle.go_sched.specs.Operations.{Woken, Answer, Outcome, done, default, blocks, sends, receives, closes, selects}
use Rattle.go_sched.specs.declared.scheduling.Point.{Point}
use Rattle.go_sched.specs.declared.scheduling.Point.TheVariants as point
use Rattle.go_store.specs.Stores.{Stored}
use Rattle.go_type.specs.declared.operators.Builtin.TheVariants as builtin
use Rattle.go_value.specs.Values as vals
use Rattle.go_value.specs.Values.{Val}
use Rattle.go_value.specs.declared.faults.Fault.{Fault}
use Rattle.go_value.specs.declared.faults.Fault.TheVariants as fault
use Rattle.ssa_ir.specs.declared.code.Code.{Code}
use Rattle.ssa_ir.specs.declared.code.Function.{Function}
use Rattle.ssa_ir.specs.declared.code.FunctionKind.{FunctionKind}
use Rattle.ssa_ir.specs.declared.code.FunctionKind.TheVariants as kind
use Rattle.ssa_ir.specs.declared.operands.Operand.{Operand}
use Rattle.ssa_ir.specs.declared.operands.Operand.TheVariants as operand
use Rattle.ssa_ir.specs.declared.ops.Instr.{Instr}
use Rattle.ssa_ir.specs.declared.ops.Op.{Op}
use Rattle.ssa_ir.specs.declared.ops.Op.TheVariants as op
use Rattle.ssa_ir.specs.declared.ops.SelectCase.{SelectCase}
use Rattle.ssa_mean.specs.Answers.{Answers}
use Rattle.ssa_mean.specs.BuiltIns.{Done, built_in_call}
use Rattle.ssa_mean.specs.Calls.{Entry, enters, enters_kind, enters_source, enters_external, exits, pushed, fits_entry, entered, entry_of, most_passed}
use Rattle.ssa_mean.specs.Channels.{woken, all_woken, completed, answered, came_to, received, selected, with_sched, cases_of}
use Rattle.ssa_mean.specs.Comes.{Comes, to, faults, nowhere}
use Rattle.ssa_mean.specs.Conversions.{Stores}
use Rattle.ssa_mean.specs.Making.{Channels}
use Rattle.ssa_mean.specs.State.{BuiltIn, plain, Callee, of_function, of_built_in, of_nil, Later, Frame, FrameState, running}
use Rattle.ssa_mean.specs.State.{returning, panicking, Thrown, Goroutine, Machine, Next, goes, ends, stuck, where_there}
use Rattle.ssa_mean.specs.State.{current, with_current, with_frames, with_result, advanced}
use Rattle.ssa_mean.specs.Step.{Site, acts, step}
use Rattle.ssa_mean.specs.Step as steps_of
use Rattle.ssa_mean.specs.Unwinding.{throws, throws_from, meets, panics_with, with_tick, switches, chosen, goes_on}
use Rattle.ssa_mean.specs.Unwinding.{goes_with, unwound, at_block, may_recover, recovered, recovering}
use Rattle.ssa_ir.specs.Blocks.{instrs_at}
use Rattle.ssa_mean.specs.Calls.{readied, with_new}
use Rattle.ssa_mean.specs.Faults.{thrown_text}
use Rattle.ssa_mean.specs.Operands.{term_of, values_of, function_at}
use Rattle.ssa_mean.specs.Ranges.{ranged, next_turn}

-- ---- an output that stands first in another

abbrev pub Stands : List ℕ → List ℕ → Type 0
Stands out more = (rest : List ℕ) × (more ≡ out ++ rest)

pub stays : (out : List ℕ) → Stands out out
stays out = ([], sym (append-nil out))

pub stands_on : (a b c : List ℕ) → Stands a b → Stands b c → Stands a c
stands_on a b c (x, p) (y, q) = (x ++ y, q ∙ ap (λ front. front ++ y) p ∙ append_assoc a x y)

unfoldable pub Grows : List ℕ → Next → Type 0
Grows out (goes m) = Stands out m.output
Grows out (ends ending more) = Stands out more
Grows out stuck = Unit {0}

goes_grows : (out : List ℕ) (m : Machine) → Stands out m.output → Grows out (goes m)
unfolding Grows
goes_grows out m h = h

ends_grows : (out more : List ℕ) (it : Ending) → Stands out more → Grows out (ends it more)
unfolding Grows
ends_grows out more it h = h

stuck_grows : (out : List ℕ) → Grows out stuck
unfolding Grows
stuck_grows out = tt

-- ---- where something is there

some_grows : {A : Type 0} (out : List ℕ) (next : A → Next) (it : Option A) → ((a : A) → Grows out (next a))
    → Grows out (where_there next it)
some_grows out next None h = stuck_grows _
some_grows out next (Some a) h = h a

either_grows : (out : List ℕ) (b : Bool) (one other : Next) → Grows out one → Grows out other
    → Grows out (if b then one else other)
either_grows out true one other p q = p
either_grows out false one other p q = q

-- ---- panics and switch points

from_grows : (code : Code) (m : Machine) (g : Goroutine) (frames : List Frame) (thrown : Thrown)
    → Grows m.output (throws_from code m g frames thrown)
from_grows code m g [] thrown =
    some_grows m.output (λ (words : List ℕ). ends (ending.Panicked words) m.output) (thrown_text code thrown)
    (λ words. ends_grows _ _ _ (stays m.output))
from_grows code m g (top ∷ below) thrown = goes_grows _ _ (stays m.output)

throws_grows : (code : Code) (m : Machine) (thrown : Thrown) → Grows m.output (throws code m thrown)
throws_grows code m thrown = some_grows m.output _ _ (λ g. from_grows code m g g.frames thrown)

meets_grows : (code : Code) (m : Machine) (it : Fault) → Grows m.output (meets code m it)
meets_grows code m it = throws_grows code m _

panics_grows : (code : Code) (m : Machine) (it : Val) → Grows m.output (panics_with code m it)
panics_grows code m vals.nil_interface = meets_grows code m fault.PanicNil
panics_grows code m it = throws_grows code m _

tick_grows : (n : ℕ) (m : Machine) (next : Machine → Next) → ((k : ℕ) → Grows m.output (next (record m { ticks = k })))
    → Grows m.output (with_tick n m next)
tick_grows zero m next h = ends_grows _ _ _ (stays m.output)
tick_grows (suc n) m next h = h n

goes_with_grows : (code : Code) (m : Machine) (g : Goroutine) (it : Option Fault) → Grows m.output (goes_with code m g it)
goes_with_grows code m g None = goes_grows _ _ (stays m.output)
goes_with_grows code m g (Some it) = meets_grows code (with_current (record g { fault = None }) m) it

goes_on_grows : (code : Code) (m : Machine) → Grows m.output (goes_on code m)
goes_on_grows code m = some_grows m.output _ _ (λ g. goes_with_grows code m g g.fault)

chosen_grows : (code : Code) (it : Option GoId) (m : Machine) → Grows m.output (chosen code it m)
chosen_grows code None m = ends_grows _ _ _ (stays m.output)
chosen_grows code (Some it) m = goes_on_grows code m

switches_grows : (code : Code) (at : Point) (m : Machine) → Grows m.output (switches code at m)
switches_grows code at m = tick_grows m.ticks m _ (λ k. chosen_grows code _ (record m { ticks = k; sched = _ }))

unwound_grows : (code : Code) (m : Machine) (g : Goroutine) (top : Frame) (below : List Frame) (state : FrameState)
    → Grows m.output (unwound code m g top below state)
unwound_grows code m g top below (panicking thrown) = from_grows code m g _ thrown
unwound_grows code m g top below running = goes_grows _ _ (stays m.output)
unwound_grows code m g top below returning = goes_grows _ _ (stays m.output)

-- ---- calls

pushed_grows : (function : Function) (entry : Entry) (m : Machine) → Grows m.output (pushed function entry m)
pushed_grows function entry m =
    either_grows m.output (fits_entry function entry) _ _
    (some_grows m.output (λ (g : Goroutine). goes (with_frames g (entered function entry ∷ g.frames) m)) (current m)
    (λ g. goes_grows _ _ (stays m.output)))
    (stuck_grows _)

source_grows : (code : Code) (m : Machine) (g : Goroutine) (function : Function) (entry : Entry)
    → Grows m.output (enters_source code m g function entry)
source_grows code m g function entry =
    either_grows m.output _ _ _ (ends_grows _ _ _ (stays m.output))
    (tick_grows m.ticks m _ (λ k. pushed_grows function entry (record m { ticks = k })))

exits_grows : (m : Machine) (arguments : List Val) → Grows m.output (exits m arguments)
exits_grows m [] = stuck_grows _
exits_grows m (vals.number status ∷ []) = ends_grows _ _ _ (stays m.output)
exits_grows m _ = stuck_grows _

external_grows : (code : Code) (m : Machine) (function : Function) (arguments : List Val)
    → Grows m.output (enters_external code m function arguments)
external_grows code m function arguments =
    either_grows m.output _ _ _ (exits_grows m arguments) (switches_grows code point.Yield m)

kind_grows : (code : Code) (m : Machine) (g : Goroutine) (function : Function) (of : FunctionKind) (entry : Entry)
    → Grows m.output (enters_kind code m g function of entry)
kind_grows code m g function kind.Source entry = source_grows code m g function entry
kind_grows code m g function kind.External entry = external_grows code m function entry.arguments
kind_grows code m g function _ entry = pushed_grows function entry m

enters_grows : (code : Code) (m : Machine) (entry : Entry) → Grows m.output (enters code m entry)
enters_grows code m entry =
    either_grows m.output (nat_lt most_passed entry.chain) _ _ (ends_grows _ _ ending.StackOverflow (stays m.output))
    (some_grows m.output _ (current m) (λ g. some_grows m.output _ (function_at code entry.function)
    (λ function. kind_grows code m g function function.kind entry)))

-- ---- channels: those that go on write nothing

-- a machine with the same output, where there is one
SameOutput : List ℕ → Option Machine → Type 0
SameOutput out None = Unit {0}
SameOutput out (Some m) = m.output ≡ out

some_same : (out : List ℕ) (m : Machine) → m.output ≡ out → SameOutput out (Some m)
unfolding SameOutput
some_same out m h = h

none_same : (out : List ℕ) → SameOutput out None
unfolding SameOutput
none_same out = tt

same_grows : (out : List ℕ) (next : Machine → Next) (it : Option Machine) → SameOutput out it
    → ((m : Machine) → Grows m.output (next m)) → Grows out (where_there next it)
unfolding SameOutput
same_grows out next None same h = stuck_grows _
same_grows out next (Some m) same h = subst (λ front. Grows front (next m)) same (h m)

same_and_then : (out : List ℕ) (next : Machine → Option Machine) (it : Option Machine) → SameOutput out it
    → ((m : Machine) → SameOutput m.output (next m)) → SameOutput out (option_and_then next it)
unfolding SameOutput
same_and_then out next None same h = none_same out
same_and_then out next (Some m) same h = subst (λ front. SameOutput front (next m)) same (h m)

mapped_same : {A : Type 0} (out : List ℕ) (f : A → Machine) (it : Option A) → ((a : A) → (f a).output ≡ out)
    → SameOutput out (option_map f it)
mapped_same out f None h = none_same out
mapped_same out f (Some a) h = some_same out (f a) (h a)

woken_same : (code : Code) (it : Woken) (m : Machine) → SameOutput m.output (woken code it m)
woken_same code it m = mapped_same m.output _ _ (λ g. refl)

all_woken_same : (code : Code) (others : List Woken) (m : Machine) → SameOutput m.output (all_woken code others m)
all_woken_same code [] m = some_same m.output m refl
all_woken_same code (it ∷ others) m =
    same_and_then m.output (all_woken code others) (woken code it m) (woken_same code it m) (all_woken_same code others)

completed_grows : (code : Code) (others : List Woken) (m : Machine) → Grows m.output (completed code others m)
completed_grows code others m =
    same_grows m.output _ _ (all_woken_same code others m) (switches_grows code point.After)

answered_grows : (code : Code) (m : Machine) (next : ℕ → Option Val → Option Machine) (otherwise : Option Machine)
    (answer : Answer) → ((index : ℕ) (it : Option Val) → SameOutput m.output (next index it))
    → SameOutput m.output otherwise → Grows m.output (answered code m next otherwise answer)
answered_grows code m next otherwise (done index it others) h none =
    same_grows m.output _ _ (h index it) (completed_grows code others)
answered_grows code m next otherwise default h none = same_grows m.output _ _ none (switches_grows code point.After)
answered_grows code m next otherwise blocks h none = switches_grows code point.Blocked m

came_grows : (code : Code) (m : Machine) (next : ℕ → Option Val → Option Machine) (otherwise : Option Machine)
    (it : Result Answer Fault) → ((index : ℕ) (it : Option Val) → SameOutput m.output (next index it))
    → SameOutput m.output otherwise → Grows m.output (came_to code m next otherwise it)
came_grows code m next otherwise (Ok answer) h none = answered_grows code m next otherwise answer h none
came_grows code m next otherwise (Err it) h none = meets_grows code m it

-- ---- instructions

stored_grows : (s : Site) (register : Option ℕ) (it : Comes Stores)
    → Grows s.machine.output (steps_of.gives_stored s register it)
stored_grows s register (to it) = goes_grows _ _ (stays s.machine.output)
stored_grows s register (faults it) = meets_grows s.code s.machine it
stored_grows s register nowhere = stuck_grows _

value_grows : (s : Site) (register : Option ℕ) (it : Comes Val) → Grows s.machine.output (steps_of.gives_value s register it)
value_grows s register it = stored_grows s register _

changes_grows : (s : Site) (it : Comes Stored) → Grows s.machine.output (steps_of.changes_store s it)
changes_grows s (to it) = goes_grows _ _ (stays s.machine.output)
changes_grows s (faults it) = meets_grows s.code s.machine it
changes_grows s nowhere = stuck_grows _

channel_grows : (s : Site) (register : Option ℕ) (it : Comes Channels)
    → Grows s.machine.output (steps_of.gives_channel s register it)
channel_grows s register (to it) = goes_grows _ _ (stays s.machine.output)
channel_grows s register (faults it) = meets_grows s.code s.machine it
channel_grows s register nowhere = stuck_grows _

jumps_grows : (s : Site) (block : BlockId) → Grows s.machine.output (steps_of.jumps s block)
jumps_grows s block =
    some_grows s.machine.output
    (λ (frame : Frame).
    goes (with_frames s.goroutine (at_block s.function block.number frame ∷ s.below) s.machine))
    (steps_of.with_phis s (steps_of.front_phis (instrs_at s.function block.number)) s.frame)
    (λ frame. goes_grows _ _ (stays s.machine.output))

branches_grows : (s : Site) (one other : BlockId) (it : Val) → Grows s.machine.output (steps_of.branches s one other it)
branches_grows s one other (vals.truth it) = either_grows s.machine.output it _ _ (jumps_grows s one) (jumps_grows s other)
branches_grows s one other _ = stuck_grows _

finishes_grows : (s : Site) (register : Option ℕ) (it : Comes Done) → Grows s.machine.output (steps_of.finishes s register it)
finishes_grows s register (to it) = goes_grows _ _ (it.written, refl)
finishes_grows s register (faults it) = meets_grows s.code s.machine it
finishes_grows s register nowhere = stuck_grows _

close_grows : (code : Code) (m next : Machine) (arguments : List Val) → next.output ≡ m.output
    → Grows m.output (steps_of.close_of code m next arguments)
close_grows code m next [] same = stuck_grows _
close_grows code m next (vals.chan_number id ∷ []) same =
    let outcome : Outcome = closes m.sched id in
    came_grows code m (λ index it. Some (with_sched outcome.after next)) None outcome.answer
    (λ index it. some_same m.output (with_sched outcome.after next) same) (none_same _)
close_grows code m next _ same = stuck_grows _

panic_of_grows : (code : Code) (m : Machine) (arguments : List Val) → Grows m.output (steps_of.panic_of code m arguments)
panic_of_grows code m (it ∷ []) = panics_grows code m it
panic_of_grows code m _ = stuck_grows _

recovers_grows : (s : Site) (register : Option ℕ) → Grows s.machine.output (steps_of.recovers s register)
recovers_grows s register =
    either_grows s.machine.output (may_recover s.code s.frame)
    (goes (with_frames s.goroutine
    (advanced (with_result register (Some (recovered s.code s.below)) s.frame) ∷ recovering s.code s.below) s.machine))
    (steps_of.goes_behind s register (Some vals.nil_interface) s.machine)
    (goes_grows _ _ (stays s.machine.output)) (goes_grows _ _ (stays s.machine.output))

built_in_grows : (s : Site) (register : Option ℕ) (it : BuiltIn) (arguments : List Val)
    → Grows s.machine.output (steps_of.calls_built_in s register it arguments)
built_in_grows s register (plain builtin.Close) arguments =
    close_grows s.code s.machine (steps_of.behind_call s) arguments refl
built_in_grows s register (plain builtin.Panic) arguments = panic_of_grows s.code s.machine arguments
built_in_grows s register (plain builtin.Recover) arguments = recovers_grows s register
built_in_grows s register it arguments =
    finishes_grows s register (built_in_call s.answers s.machine.store s.machine.sched it arguments)

calls_grows : (s : Site) (register : Option ℕ) (it : Later) (callee : Callee)
    → Grows s.machine.output (steps_of.calls s register it callee)
calls_grows s register it (of_function id free) =
    enters_grows s.code (steps_of.behind_call s) (entry_of s.code s.machine id free it false register)
calls_grows s register it (of_built_in called) = built_in_grows s register called it.arguments
calls_grows s register it of_nil = meets_grows s.code s.machine fault.NilPointer

later_grows : (s : Site) (it : Comes Later) (next : Later → Next) → ((it : Later) → Grows s.machine.output (next it))
    → Grows s.machine.output (steps_of.with_later s it next)
later_grows s (to it) next h = h it
later_grows s (faults it) next h = meets_grows s.code s.machine it
later_grows s nowhere next h = stuck_grows _

send_grows : (s : Site) (channel it : Val) → Grows s.machine.output (steps_of.send_on s channel it)
send_grows s (vals.chan_number id) it =
    let outcome : Outcome = sends 0 it s.machine.sched id in
    let after : Machine = steps_of.behind_with s None outcome.after None in
    came_grows s.code (with_sched outcome.after s.machine) (λ index it. Some after) None outcome.answer
    (λ index it. some_same s.machine.output after refl) (none_same _)
send_grows s _ it = stuck_grows _

receive_grows : (s : Site) (register : Option ℕ) (channel : Operand) (comma_ok : Bool) (it : Val)
    → Grows s.machine.output (steps_of.receive_from s register channel comma_ok it)
receive_grows s register channel comma_ok (vals.chan_number id) =
    let outcome : Outcome = receives 0 s.machine.sched id in
    came_grows s.code (with_sched outcome.after s.machine)
    (λ index it. option_map (λ given. steps_of.behind_with s register outcome.after (Some given))
    (received s.code s.function channel comma_ok it)) None outcome.answer
    (λ index it. mapped_same s.machine.output (λ given. steps_of.behind_with s register outcome.after (Some given))
    (received s.code s.function channel comma_ok it) (λ given. refl)) (none_same _)
receive_grows s register channel comma_ok _ = stuck_grows _

select_grows : (s : Site) (register : Option ℕ) (blocking : Bool) (cases : List SelectCase) (outcome : Outcome)
    → Grows s.machine.output (steps_of.select_among s register blocking cases outcome)
select_grows s register blocking cases outcome =
    let after : Val → Machine = λ given. steps_of.behind_with s register outcome.after (Some given) in
    came_grows s.code (with_sched outcome.after s.machine)
    (λ index it. option_map after (selected s.code s.function cases (Some index) it))
    (option_map after (selected s.code s.function cases None None)) outcome.answer
    (λ index it. mapped_same s.machine.output after (selected s.code s.function cases (Some index) it) (λ given. refl))
    (mapped_same s.machine.output after (selected s.code s.function cases None None) (λ given. refl))

next_grows : (s : Site) (register : Option ℕ) (it : Operand) → Grows s.machine.output (steps_of.next_of s register it)
next_grows s register (operand.Register range) =
    some_grows s.machine.output (steps_of.turns s register range)
    (option_and_then (next_turn s.code s.machine.store s.machine.sched
    (ranged s.code (term_of s.code s.function (operand.Register range)))) (steps_of.value s (operand.Register range)))
    (λ turn. goes_grows _ _ (stays s.machine.output))
next_grows s register _ = stuck_grows _

acts_grows : (s : Site) (register : Option ℕ) (it : Op) → Grows s.machine.output (acts s register it)
unfolding acts
acts_grows s register (op.New of) = stored_grows s register _
acts_grows s register (op.Phi edges) = stuck_grows _
acts_grows s register (op.Binary o left right) = value_grows s register _
acts_grows s register (op.Unary o it) = value_grows s register _
acts_grows s register (op.Load at) = value_grows s register _
acts_grows s register (op.Store at it) = changes_grows s _
acts_grows s register (op.Field it field) = value_grows s register _
acts_grows s register (op.FieldAddress it field) = value_grows s register _
acts_grows s register (op.Index it index) = value_grows s register _
acts_grows s register (op.IndexAddress it index) = value_grows s register _
acts_grows s register (op.Lookup it key comma_ok) = value_grows s register _
acts_grows s register (op.Update it key new) = changes_grows s _
acts_grows s register (op.Slice it low high max) = value_grows s register _
acts_grows s register (op.Convert of it) = stored_grows s register _
acts_grows s register (op.ChangeType of it) = value_grows s register _
acts_grows s register (op.MakeInterface of it) = value_grows s register _
acts_grows s register (op.ChangeInterface of it) = value_grows s register _
acts_grows s register (op.MakeClosure id captured) = value_grows s register _
acts_grows s register (op.MakeMap of) = stored_grows s register (to (steps_of.new_map s))
acts_grows s register (op.MakeChan of size) = channel_grows s register _
acts_grows s register (op.MakeSlice of len cap) = stored_grows s register _
acts_grows s register (op.TypeAssert it of comma_ok) = value_grows s register _
acts_grows s register (op.Call call) =
    later_grows s (readied s.code s.function s.frame call) (λ it. steps_of.calls s register it it.callee)
    (λ it. calls_grows s register it it.callee)
acts_grows s register (op.Go call) =
    later_grows s (readied s.code s.function s.frame call) (steps_of.starts_call s)
    (λ it. switches_grows s.code point.After (with_new it (steps_of.behind_call s)))
acts_grows s register (op.Defer call) =
    later_grows s (readied s.code s.function s.frame call) (steps_of.defers_call s) (λ it. goes_grows _ _ (stays s.machine.output))
acts_grows s register (op.RunDefers) = goes_grows _ _ (stays s.machine.output)
acts_grows s register (op.Send channel it) =
    some_grows s.machine.output (λ channel. where_there (steps_of.send_on s channel) (steps_of.value s it))
    (steps_of.value s channel)
    (λ channel. some_grows s.machine.output (steps_of.send_on s channel) (steps_of.value s it)
    (λ it. send_grows s channel it))
acts_grows s register (op.Receive channel comma_ok) =
    some_grows s.machine.output (steps_of.receive_from s register channel comma_ok) (steps_of.value s channel)
    (λ it. receive_grows s register channel comma_ok it)
acts_grows s register (op.Select blocking cases) =
    some_grows s.machine.output
    (λ operations. steps_of.select_among s register blocking cases (selects s.machine.sched operations (not blocking)))
    (cases_of s.code s.frame cases)
    (λ operations. select_grows s register blocking cases (selects s.machine.sched operations (not blocking)))
acts_grows s register (op.Range it) = value_grows s register _
acts_grows s register (op.Next it) = next_grows s register it
acts_grows s register (op.Extract it part) = value_grows s register _
acts_grows s register (op.Tick) =
    tick_grows s.machine.ticks s.machine (steps_of.goes_behind s None None) (λ k. goes_grows _ _ (stays s.machine.output))
acts_grows s register (op.Jump block) = jumps_grows s block
acts_grows s register (op.If test one other) =
    some_grows s.machine.output (steps_of.branches s one other) (steps_of.value s test)
    (λ it. branches_grows s one other it)
acts_grows s register (op.Return results) =
    some_grows s.machine.output (steps_of.returns s) (values_of s.code s.frame results)
    (λ results. goes_grows _ _ (stays s.machine.output))
acts_grows s register (op.Panic it) =
    some_grows s.machine.output (panics_with s.code s.machine) (steps_of.value s it)
    (λ it. panics_grows s.code s.machine it)

-- ---- a step

wrote_grows : (code : Code) (m : Machine) (it : Comes Done) → Grows m.output (steps_of.wrote code m it)
wrote_grows code m (to it) = goes_grows _ _ (it.written, refl)
wrote_grows code m (faults it) = meets_grows code m it
wrote_grows code m nowhere = stuck_grows _

alone_grows : (answers : Answers) (code : Code) (m : Machine) (it : BuiltIn) (arguments : List Val)
    → Grows m.output (steps_of.alone answers code m it arguments)
alone_grows answers code m (plain builtin.Close) arguments = close_grows code m m arguments refl
alone_grows answers code m (plain builtin.Panic) arguments = panic_of_grows code m arguments
alone_grows answers code m (plain builtin.Recover) arguments = goes_grows _ _ (stays m.output)
alone_grows answers code m it arguments = wrote_grows code m (built_in_call answers m.store m.sched it arguments)

makes_grows : (answers : Answers) (code : Code) (m : Machine) (it : Later) (deferred : Bool) (callee : Callee)
    → Grows m.output (steps_of.makes answers code m it deferred callee)
makes_grows answers code m it deferred (of_function id free) =
    enters_grows code m (entry_of code m id free it deferred None)
makes_grows answers code m it deferred (of_built_in called) = alone_grows answers code m called it.arguments
makes_grows answers code m it deferred of_nil = meets_grows code m fault.NilPointer

unwinds_grows : (answers : Answers) (code : Code) (m : Machine) (g : Goroutine) (top : Frame) (below : List Frame)
    (defers : List Later) → Grows m.output (steps_of.unwinds answers code m g top below defers)
unwinds_grows answers code m g top below [] = unwound_grows code m g top below top.state
unwinds_grows answers code m g top below (it ∷ others) =
    makes_grows answers code (with_frames g (record top { defers = others } ∷ below) m) it true it.callee

runs_grows : (answers : Answers) (code : Code) (m : Machine) (g : Goroutine) (top : Frame) (below : List Frame)
    (function : Option Function) → Grows m.output (steps_of.runs answers code m g top below function)
runs_grows answers code m g top below None = stuck_grows _
runs_grows answers code m g top below (Some function) =
    does_grows (record {
      code = code;
      answers = answers;
      machine = m;
      goroutine = g;
      below = below;
      frame = top;
      function = function;
    }) (slice_get (instrs_at function top.block) top.place)
  where
    does_grows : (s : Site) (it : Option Instr) → Grows s.machine.output (steps_of.does s it)
    does_grows s None = stuck_grows _
    does_grows s (Some instr) = acts_grows s instr.register instr.op

moves_grows : (answers : Answers) (code : Code) (m : Machine) (g : Goroutine) (top : Frame) (below : List Frame)
    (state : FrameState) → Grows m.output (steps_of.moves answers code m g top below state)
moves_grows answers code m g top below running =
    runs_grows answers code m g top below (function_at code top.function)
moves_grows answers code m g top below returning = unwinds_grows answers code m g top below top.defers
moves_grows answers code m g top below (panicking thrown) = unwinds_grows answers code m g top below top.defers

starts_grows : (code : Code) (m : Machine) (starts : List FuncId) → Grows m.output (steps_of.starts_next code m starts)
starts_grows code m [] = ends_grows _ _ _ (stays m.output)
starts_grows code m (id ∷ others) = enters_grows code (record m { starts = others }) (steps_of.first_entry id)

begins_grows : (answers : Answers) (code : Code) (m : Machine) (g : Goroutine) (begin : Option Later)
    → Grows m.output (steps_of.begins answers code m g begin)
begins_grows answers code m g None =
    either_grows m.output _ _ _ (starts_grows code m m.starts) (switches_grows code point.Ended m)
begins_grows answers code m g (Some it) =
    makes_grows answers code (with_current (record g { begin = None }) m) it false it.callee

on_grows : (answers : Answers) (code : Code) (m : Machine) (g : Goroutine) (frames : List Frame)
    → Grows m.output (steps_of.steps_on answers code m g frames)
on_grows answers code m g [] = begins_grows answers code m g g.begin
on_grows answers code m g (top ∷ below) = moves_grows answers code m g top below top.state

pub step_grows : (answers : Answers) (code : Code) (m : Machine) → Grows m.output (step answers code m)
unfolding step
step_grows answers code m = some_grows m.output _ (current m) (λ g. on_grows answers code m g g.frames)
