-- What was written stays, step by step.
use Rattle.std.proofs.Common.{ℕ, ◌++◌, Bool, true, false, List, [], ◌∷◌, Option, Some, None, refl}
use Rattle.std.specs.Prelude.{ℤ, pos, reverse, take, drop}
use Rattle.go_base.specs.declared.ids.FuncId.{FuncId}
use Rattle.go_base.specs.declared.ids.NameId.{NameId}
use Rattle.go_base.specs.declared.ids.TypeId.{TypeId}
use Rattle.go_base.specs.declared.place.Pos.{Pos}
use Rattle.go_sched.specs.declared.scheduling.Point.TheVariants as point
use Rattle.go_tree.specs.declared.exprs.TypedExpr.{TypedExpr}
use Rattle.go_tree.specs.declared.program.Body.{Body}
use Rattle.go_tree.specs.declared.stmts.Comm.{Comm}
use Rattle.go_tree.specs.declared.stmts.Comm.TheVariants as comm
use Rattle.go_tree.specs.declared.stmts.RangeOver.{RangeOver}
use Rattle.go_tree.specs.declared.stmts.RangeOver.TheVariants as over_of
use Rattle.go_tree.specs.declared.stmts.TypeCase.{TypeCase}
use Rattle.go_tree.specs.declared.stmts.TypeClause.{TypeClause}
use Rattle.go_tree.specs.declared.stmts.TypedArm.{TypedArm}
use Rattle.go_tree.specs.declared.stmts.TypedBlock.{TypedBlock}
use Rattle.go_tree.specs.declared.stmts.TypedCase.{TypedCase}
use Rattle.go_tree.specs.declared.stmts.TypedClause.{TypedClause}
use Rattle.go_tree.specs.declared.stmts.TypedStmt.{TypedStmt}
use Rattle.go_type.specs.declared.operators.Builtin.TheVariants as builtin
use Rattle.go_value.specs.Values.{Val, Typed}
use Rattle.go_value.specs.Values as vals
use Rattle.go_value.specs.declared.faults.Fault.TheVariants as fault
use Rattle.ssa_mean.specs.BuiltIns.{Done, built_in_call}
use Rattle.ssa_mean.specs.Comes.{Comes, to, faults, nowhere, then_to}
use Rattle.ssa_mean.specs.Making.{Channels}
use Rattle.ssa_mean.specs.State.{BuiltIn, plain, FrameState, running, returning, panicking}
use Rattle.go_mean.specs.Calls as calls_of
use Rattle.go_mean.specs.Calls.{Selected, enters}
use Rattle.go_mean.specs.Expressions.{Opened, puts, finds, opened, addressed, making_count, where_addressed, literal_of}
use Rattle.go_store.specs.Cells.{value_at}
use Rattle.go_mean.specs.Flow as flow_of
use Rattle.go_mean.specs.Places.{Changed, begun, begun_zero, begun_zeros, count_into}
use Rattle.go_mean.specs.Ranges.{Sought, is_taken, is_over, asks, is_lost, sought, loop_variables, begins_range, turn_pair}
use Rattle.go_mean.specs.Returns as returns_of
use Rattle.go_mean.specs.State as parts
use Rattle.go_mean.specs.State.{Setting, Manner, Called, Callee, Readied, RangeLoop, Ranging, Loop, Test, Choosing, Piece, Later, Frame, Goroutine, Machine, Next, goes, ends, stuck, where_there, current, with_current, with_frames, Site, with_frame, goes_as, finding}
use Rattle.go_mean.specs.Statements as begun_of
use Rattle.go_mean.specs.Statements.{Begun}
use Rattle.go_mean.specs.Step as step_of
use Rattle.go_mean.specs.Step.{step, acts, continues}
use Rattle.go_mean.specs.Taking as taking_of
use Rattle.ssa_mean.proofs.Outputs.{stays}
use Rattle.go_mean.proofs.Outputs.{Grows, goes_grows, ends_grows, stuck_grows, some_grows, either_grows, as_grows, from_grows, meets_grows, panics_grows, tick_grows, switches_grows, calls_grows, method_grows, starts_with_grows, sends_grows, receives_grows, selects_grows, closes_grows, one_grows, two_grows, with_last_grows, integer_grows, truth_grows, bound_grows, pieces_grows, stored_grows, value_grows, changes_grows}

-- ---- statements

both_grows : (s : Site) (work : List Piece) (later : List Later) → Grows s.machine.output (flow_of.goes_both s work later)
both_grows s work later = as_grows s _

later_grows : (s : Site) (later : List Later) → Grows s.machine.output (flow_of.goes_later s later)
later_grows s later = as_grows s _

branches_grows : (s : Site) (body : TypedBlock) (arms : List TypedArm) (otherwise : Option TypedBlock) (it : Bool)
    → Grows s.machine.output (flow_of.branches s body arms otherwise it)
branches_grows s body arms otherwise true = as_grows s _
branches_grows s body (arm ∷ arms) otherwise false = as_grows s _
branches_grows s body [] otherwise false = as_grows s _

clause_grows : (s : Site) (clauses : List TypedClause) (later : List Later)
    → Grows s.machine.output (flow_of.takes_clause s clauses later)
clause_grows s [] later = stuck_grows _
clause_grows s (clause ∷ clauses) later = as_grows s _

default_grows : (s : Site) (clauses : List TypedClause) (later : List Later)
    → Grows s.machine.output (flow_of.takes_default s clauses later)
default_grows s [] later = as_grows s _
default_grows s (clause ∷ clauses) later = as_grows s _

next_test_grows : (s : Site) (c : Choosing TypedCase TypedClause) (tests : List (Test TypedCase)) (later : List Later)
    → Grows s.machine.output (flow_of.tests_next s c tests later)
next_test_grows s c [] later = default_grows s (flow_of.from_default c.clauses) later
next_test_grows s c (test ∷ tests) later = as_grows s _

first_test_grows : (s : Site) (c : Choosing TypedCase TypedClause) (tests : List (Test TypedCase))
    (default : List TypedClause) → Grows s.machine.output (flow_of.picks_first s c tests default)
first_test_grows s c [] [] = as_grows s _
first_test_grows s c [] (clause ∷ clauses) = as_grows s _
first_test_grows s c (test ∷ tests) default = as_grows s _

picks_grows : (s : Site) (later : List Later) → Grows s.machine.output (flow_of.picks_default s later)
picks_grows s (parts.cases c ∷ later) = default_grows s (flow_of.from_default c.clauses) later
picks_grows s _ = stuck_grows _

met_grows : (s : Site) (c : Choosing TypedCase TypedClause) (tests : List (Test TypedCase)) (later : List Later)
    (it : Bool) → Grows s.machine.output (flow_of.met s c tests later it)
met_grows s c (test ∷ tests) later true = clause_grows s (drop test.clause c.clauses) later
met_grows s c (test ∷ tests) later false = next_test_grows s c tests later
met_grows s c [] later it = stuck_grows _

matches_grows : (s : Site) (later : List Later) (it : Bool) → Grows s.machine.output (flow_of.matches s later it)
matches_grows s (parts.cases c ∷ later) it = met_grows s c c.tests later it
matches_grows s _ it = stuck_grows _

compared_grows : (s : Site) (it : Comes Val) → Grows s.machine.output (flow_of.matches_comes s it)
compared_grows s (to it) = truth_grows s.machine.output it (flow_of.matches s s.frame.later) (matches_grows s s.frame.later)
compared_grows s (faults it) = meets_grows s.setting s.machine it
compared_grows s nowhere = stuck_grows _

tag_grows : (s : Site) (it : Val) (tag : Option Typed) → Grows s.machine.output (flow_of.compares_tag s it tag)
tag_grows s it None = stuck_grows _
tag_grows s it (Some tag) = compared_grows s _

widens_grows : (s : Site) (tag : Option Typed) → Grows s.machine.output (flow_of.widens s tag)
widens_grows s None = stuck_grows _
widens_grows s (Some tag) = value_grows s _

type_clause_grows : (s : Site) (clauses : List TypeClause) (it held : Val) (later : List Later)
    → Grows s.machine.output (flow_of.takes_type_clause s clauses it held later)
type_clause_grows s [] it held later = stuck_grows _
type_clause_grows s (clause ∷ clauses) it held later = as_grows s _

type_default_grows : (s : Site) (clauses : List TypeClause) (it : Val) (later : List Later)
    → Grows s.machine.output (flow_of.takes_type_default s clauses it later)
type_default_grows s [] it later = as_grows s _
type_default_grows s (clause ∷ clauses) it later = as_grows s _

next_type_grows : (s : Site) (c : Choosing TypeCase TypeClause) (tag : Typed) (tests : List (Test TypeCase))
    (later : List Later) → Grows s.machine.output (flow_of.tests_type_next s c tag tests later)
next_type_grows s c tag [] later = type_default_grows s (flow_of.from_type_default c.clauses) tag.value later
next_type_grows s c tag (test ∷ tests) later = as_grows s _

first_type_grows : (s : Site) (c : Choosing TypeCase TypeClause) (tag : Typed) (tests : List (Test TypeCase))
    (default : List TypeClause) → Grows s.machine.output (flow_of.picks_type_first s c tag tests default)
first_type_grows s c tag [] [] = as_grows s _
first_type_grows s c tag [] (clause ∷ clauses) = as_grows s _
first_type_grows s c tag (test ∷ tests) default = as_grows s _

type_picks_grows : (s : Site) (later : List Later) → Grows s.machine.output (flow_of.picks_type_default s later)
type_picks_grows s (parts.type_cases c ∷ later) =
    some_grows s.machine.output
    (λ (tag : Typed). flow_of.takes_type_default s (flow_of.from_type_default c.clauses) tag.value later) c.tag
    (λ tag. type_default_grows s (flow_of.from_type_default c.clauses) tag.value later)
type_picks_grows s _ = stuck_grows _

met_type_grows : (s : Site) (c : Choosing TypeCase TypeClause) (tag : Typed) (test : Test TypeCase)
    (tests : List (Test TypeCase)) (later : List Later) (it : Option Val)
    → Grows s.machine.output (flow_of.met_type s c tag test tests later it)
met_type_grows s c tag test tests later (Some held) =
    type_clause_grows s (drop test.clause c.clauses) tag.value held later
met_type_grows s c tag test tests later None = next_type_grows s c tag tests later

tests_type_grows : (s : Site) (c : Choosing TypeCase TypeClause) (later : List Later) (tests : List (Test TypeCase))
    (tag : Typed) → Grows s.machine.output (flow_of.tests_type s c later tests tag)
tests_type_grows s c later [] tag = stuck_grows _
tests_type_grows s c later (test ∷ tests) tag =
    met_type_grows s c tag test tests later (flow_of.case_value s tag.value test.case)

is_case_grows : (s : Site) (later : List Later) → Grows s.machine.output (flow_of.is_case_of s later)
is_case_grows s (parts.type_cases c ∷ later) =
    some_grows s.machine.output (flow_of.tests_type s c later c.tests) c.tag (tests_type_grows s c later c.tests)
is_case_grows s _ = stuck_grows _

again_grows : (s : Site) (loop : Loop) (condition : Option TypedExpr)
    → Grows s.machine.output (flow_of.goes_again s loop condition)
again_grows s loop None = as_grows s _
again_grows s loop (Some condition) = as_grows s _

decides_grows : (s : Site) (later : List Later) (it : Bool) → Grows s.machine.output (flow_of.decides s later it)
decides_grows s (parts.again loop ∷ later) true = as_grows s _
decides_grows s (parts.again loop ∷ later) false = as_grows s _
decides_grows s _ it = stuck_grows _

body_grows : (s : Site) (later : List Later) → Grows s.machine.output (flow_of.begins_body s later)
body_grows s (parts.again loop ∷ later) = as_grows s _
body_grows s (parts.turn loop at ∷ later) = as_grows s _
body_grows s _ = stuck_grows _

next_grows : (s : Site) (later : List Later) → Grows s.machine.output (flow_of.goes_next s later)
next_grows s (parts.behind_body loop ∷ later) = as_grows s _
next_grows s (parts.next_turn loop at ∷ later) = as_grows s _
next_grows s _ = stuck_grows _

variables_grows : (s : Site) (it : Option Changed) (onward : Site → Next)
    → ((it : Changed) → Grows s.machine.output (onward (flow_of.at_changed s it)))
    → Grows s.machine.output (flow_of.with_variables s it onward)
variables_grows s None onward h = stuck_grows _
variables_grows s (Some it) onward h = h it

range_grows : (s : Site) (loop : RangeLoop) (it : Val) → Grows s.machine.output (flow_of.enters_range s loop it)
range_grows s loop it =
    some_grows s.machine.output
    (λ (at : Ranging). flow_of.with_variables s (begun_zeros (taking_of.program_of s) s.frame.function
    (taking_of.store_of s) s.frame.env (loop_variables loop.fresh loop.targets))
    (λ s. flow_of.goes_later s (parts.turn loop at ∷ s.frame.later)))
    (begins_range (taking_of.program_of s) (taking_of.store_of s) loop.over loop.operand.of it)
    (λ at. variables_grows s (begun_zeros (taking_of.program_of s) s.frame.function (taking_of.store_of s) s.frame.env
    (loop_variables loop.fresh loop.targets)) (λ s. flow_of.goes_later s (parts.turn loop at ∷ s.frame.later))
    (λ it. later_grows (flow_of.at_changed s it) (parts.turn loop at ∷ (flow_of.at_changed s it).frame.later)))

loop_grows : (s : Site) (loop : RangeLoop) (over : RangeOver) → Grows s.machine.output (flow_of.begins_loop s loop over)
loop_grows s loop (over_of.Constant len) = range_grows s loop vals.nil_interface
loop_grows s loop over_of.Array = one_grows s _ (λ it found. range_grows (taking_of.having s found) loop it)
loop_grows s loop over_of.ArrayPointer = one_grows s _ (λ it found. range_grows (taking_of.having s found) loop it)
loop_grows s loop over_of.Slice = one_grows s _ (λ it found. range_grows (taking_of.having s found) loop it)
loop_grows s loop over_of.Text = one_grows s _ (λ it found. range_grows (taking_of.having s found) loop it)
loop_grows s loop over_of.Map = one_grows s _ (λ it found. range_grows (taking_of.having s found) loop it)
loop_grows s loop over_of.Channel = one_grows s _ (λ it found. range_grows (taking_of.having s found) loop it)
loop_grows s loop over_of.Integer = one_grows s _ (λ it found. range_grows (taking_of.having s found) loop it)

seeks_grows : (s : Site) (loop : RangeLoop) (at : Ranging) (later : List Later) (it : Sought)
    → Grows s.machine.output (flow_of.seeks s loop at later it)
seeks_grows s loop at later (is_taken it) = goes_grows _ _ (stays s.machine.output)
seeks_grows s loop at later is_over = as_grows s _
seeks_grows s loop at later (asks channel) = as_grows s _
seeks_grows s loop at later is_lost = stuck_grows _

received_grows : (s : Site) (later : List Later) (it there : Option Val)
    → Grows s.machine.output (flow_of.goes_received s later it there)
received_grows s (parts.turn loop at ∷ later) (Some it) (Some (vals.truth true)) = as_grows s _
received_grows s (parts.turn loop at ∷ later) it (Some (vals.truth false)) = as_grows s _
received_grows s _ it there = stuck_grows _

turn_grows : (s : Site) (loop : RangeLoop) (it : Comes Val) → Grows s.machine.output (flow_of.values_of_turn s loop it)
turn_grows s loop (to pair) = as_grows s _
turn_grows s loop (faults it) = meets_grows s.setting s.machine it
turn_grows s loop nowhere = stuck_grows _

chosen_grows : (s : Site) (body : TypedBlock) (which : Comm) (it : Option (Option Val))
    → Grows s.machine.output (flow_of.goes_chosen s body which it)
chosen_grows s body (comm.Receive channel into) (Some it) = some_grows s.machine.output _ _ (λ value. as_grows s _)
chosen_grows s body (comm.Receive channel into) None = stuck_grows _
chosen_grows s body comm.Default it = as_grows s _
chosen_grows s body (comm.Send channel value) it = as_grows s _

leaves_grows : (s : Site) (later : Option (List Later)) → Grows s.machine.output (flow_of.leaves_to s later)
leaves_grows s None = stuck_grows _
leaves_grows s (Some later) = as_grows s _

nexts_grows : (s : Site) (later : Option (List Later)) → Grows s.machine.output (flow_of.nexts_to s later)
nexts_grows s None = stuck_grows _
nexts_grows s (Some later) = next_grows s later

begun_grows : (s : Site) (later : List Later) (it : Begun) → Grows s.machine.output (flow_of.begins s later it)
begun_grows s later (begun_of.does work) = as_grows s _
begun_grows s later (begun_of.opens entries) = as_grows s _
begun_grows s later (begun_of.breaks levels) = leaves_grows s _
begun_grows s later (begun_of.continues levels) = nexts_grows s _
begun_grows s later begun_of.falls_through = leaves_grows s _
begun_grows s later begun_of.begins_nothing = stuck_grows _

rest_grows : (s : Site) (stmts : List TypedStmt) (later : List Later)
    → Grows s.machine.output (flow_of.goes_rest s stmts later)
rest_grows s [] later = as_grows s _
rest_grows s (stmt ∷ stmts) later =
    begun_grows s (parts.rest stmts ∷ later) (begun_of.begun (taking_of.program_of s) stmt)

-- ---- calls

finishes_grows : (s : Site) (it : Comes Done) → Grows s.machine.output (returns_of.finishes s it)
finishes_grows s (to it) = goes_grows _ _ (it.written, refl)
finishes_grows s (faults it) = meets_grows s.setting s.machine it
finishes_grows s nowhere = stuck_grows _

panics_of_grows : (s : Setting) (m : Machine) (arguments : List Val)
    → Grows m.output (returns_of.panics_of s m arguments)
panics_of_grows s m (it ∷ []) = panics_grows s m it
panics_of_grows s m _ = stuck_grows _

recovers_grows : (s : Site) → Grows s.machine.output (returns_of.recovers s)
recovers_grows s =
    either_grows s.machine.output _ _ _ (goes_grows _ _ (stays s.machine.output)) (as_grows s _)

built_in_grows : (s : Site) (it : BuiltIn) (arguments : List Val)
    → Grows s.machine.output (returns_of.calls_built_in s it arguments)
built_in_grows s (plain builtin.Close) arguments =
    closes_grows s.setting s.machine (with_frame s s.frame) arguments refl
built_in_grows s (plain builtin.Panic) arguments = panics_of_grows s.setting s.machine arguments
built_in_grows s (plain builtin.Recover) arguments = recovers_grows s
built_in_grows s it arguments =
    finishes_grows s (built_in_call s.setting.answers s.machine.store s.machine.sched it arguments)

alone_wrote_grows : (s : Setting) (m : Machine) (it : Comes Done) → Grows m.output (returns_of.alone_wrote s m it)
alone_wrote_grows s m (to it) = goes_grows _ _ (it.written, refl)
alone_wrote_grows s m (faults it) = meets_grows s m it
alone_wrote_grows s m nowhere = stuck_grows _

alone_grows : (s : Setting) (m : Machine) (it : BuiltIn) (arguments : List Val)
    → Grows m.output (returns_of.alone s m it arguments)
alone_grows s m (plain builtin.Close) arguments = closes_grows s m m arguments refl
alone_grows s m (plain builtin.Panic) arguments = panics_of_grows s m arguments
alone_grows s m (plain builtin.Recover) arguments = goes_grows _ _ (stays m.output)
alone_grows s m it arguments = alone_wrote_grows s m (built_in_call s.answers m.store m.sched it arguments)

makes_grows : (s : Setting) (m : Machine) (it : Readied) (deferred : Bool) (callee : Callee)
    → Grows m.output (returns_of.makes s m it deferred callee)
makes_grows s m it deferred (parts.of_function id captured) = calls_grows s m it deferred id captured it.arguments
makes_grows s m it deferred (parts.of_method name package_number) =
    method_grows s m it deferred
    (calls_of.selected s.program.types m.store (calls_of.wanted name package_number)) it.arguments
makes_grows s m it deferred (parts.of_expression of name package_number) =
    method_grows s m it deferred
    (calls_of.selected_of s.program.types m.store (calls_of.wanted name package_number) of) it.arguments
makes_grows s m it deferred (parts.of_built_in called) = alone_grows s m called it.arguments
makes_grows s m it deferred parts.of_nil = meets_grows s m fault.NilPointer

so_grows : (s : Site) (manner : Manner) (it : Readied) → Grows s.machine.output (returns_of.calls_so s manner it)
so_grows s parts.at_once it = makes_grows s.setting (with_frame s s.frame) it false it.callee
so_grows s parts.deferring it = as_grows s _
so_grows s parts.going it = switches_grows s.setting point.After (calls_of.with_new it (with_frame s s.frame))

interface_grows : (s : Site) (manner : Manner) (at : Pos) (name : NameId) (package_number : ℕ) (receiver : Val)
    (arguments : List Val)
    → Grows s.machine.output (returns_of.calls_interface s manner at name package_number receiver arguments)
interface_grows s manner at name package_number vals.nil_interface arguments =
    meets_grows s.setting s.machine fault.NilPointer
interface_grows s manner at name package_number receiver arguments =
    so_grows s manner (returns_of.readied s at (parts.of_method name package_number) (receiver ∷ arguments))

called_grows : (s : Site) (manner : Manner) (at : Pos) (it : Option (Callee × List Val))
    → Grows s.machine.output (returns_of.calls_called s manner at it)
called_grows s manner at None = stuck_grows _
called_grows s manner at (Some called) = so_grows s manner (returns_of.readied s at called.0 called.1)

calls_with_grows : (s : Site) (manner : Manner) (called : Called) (at : Pos) (arguments : List Val)
    → Grows s.machine.output (returns_of.calls_with s manner called at arguments)
calls_with_grows s manner (parts.by_function id) at arguments =
    so_grows s manner (returns_of.readied s at (parts.of_function id []) arguments)
calls_with_grows s manner (parts.by_method name package_number) at arguments =
    one_grows s _ (λ receiver found.
    interface_grows (taking_of.having s found) manner at name package_number receiver arguments)
calls_with_grows s manner parts.by_value at arguments =
    one_grows s _ (λ it found. called_grows (taking_of.having s found) manner at (calls_of.called_value it arguments))

built_in_so_grows : (s : Site) (manner : Manner) (it : BuiltIn) (at : Pos) (arguments : List Val)
    → Grows s.machine.output (returns_of.built_in_so s manner it at arguments)
built_in_so_grows s parts.at_once it at arguments = built_in_grows s it arguments
built_in_so_grows s parts.deferring it at arguments = so_grows s parts.deferring (returns_of.readied s at (parts.of_built_in it) arguments)
built_in_so_grows s parts.going it at arguments = so_grows s parts.going (returns_of.readied s at (parts.of_built_in it) arguments)

-- ---- returns

gives_to_grows : (s : Setting) (m : Machine) (g : Goroutine) (top : Frame) (below : List Frame) (it : Comes (List Val))
    → Grows m.output (returns_of.gives_to s m g top below it)
gives_to_grows s m g top below (to results) = goes_grows _ _ (stays m.output)
gives_to_grows s m g top below (faults it) = stuck_grows _
gives_to_grows s m g top below nowhere = stuck_grows _

gives_grows : (s : Setting) (m : Machine) (g : Goroutine) (top : Frame) (below : List Frame)
    → Grows m.output (returns_of.gives s m g top below)
gives_grows s m g top below = gives_to_grows s m g top below _

returns_with_grows : (s : Site) (it : Bool) → Grows s.machine.output (returns_of.returns_with s it)
returns_with_grows s true = as_grows s _
returns_with_grows s false = gives_grows s.setting s.machine s.goroutine s.frame s.below

returns_as_grows : (s : Site) (body : Body) (it : Changed) → Grows s.machine.output (returns_of.returns_as s body it)
returns_as_grows s body it =
    returns_with_grows
    (record (taking_of.at_store it.store s) { frame = record (s.frame) { env = it.env } }) body.has_defer

returns_comes_grows : (s : Site) (body : Body) (it : Comes Changed)
    → Grows s.machine.output (returns_of.returns_comes s body it)
returns_comes_grows s body (to it) = returns_as_grows s body it
returns_comes_grows s body (faults it) = meets_grows s.setting s.machine it
returns_comes_grows s body nowhere = stuck_grows _

returns_in_grows : (s : Site) (values : Bool) (body : Option Body)
    → Grows s.machine.output (returns_of.returns_in s values body)
returns_in_grows s values None = returns_with_grows s false
returns_in_grows s true (Some body) = returns_comes_grows s body _
returns_in_grows s false (Some body) = returns_as_grows s body _

unwound_grows : (s : Setting) (m : Machine) (g : Goroutine) (top : Frame) (below : List Frame) (state : FrameState)
    → Grows m.output (returns_of.unwound s m g top below state)
unwound_grows s m g top below (panicking thrown) = from_grows s m g below thrown
unwound_grows s m g top below running = gives_grows s m g top below
unwound_grows s m g top below returning = gives_grows s m g top below

unwinds_grows : (s : Setting) (m : Machine) (g : Goroutine) (top : Frame) (below : List Frame) (defers : List Readied)
    → Grows m.output (returns_of.unwinds s m g top below defers)
unwinds_grows s m g top below [] = unwound_grows s m g top below top.state
unwinds_grows s m g top below (it ∷ others) =
    makes_grows s (with_frames g (record top { defers = others } ∷ below) m) it true it.callee

starts_grows : (s : Setting) (m : Machine) (starts : List FuncId) → Grows m.output (returns_of.starts_next s m starts)
starts_grows s m [] = ends_grows _ m _ (stays m.output)
starts_grows s m (id ∷ others) =
    some_grows m.output _ _ (λ declared. starts_with_grows s (record m { starts = others }) id declared declared.form)

begins_grows : (s : Setting) (m : Machine) (g : Goroutine) (begin : Option Readied)
    → Grows m.output (returns_of.begins s m g begin)
begins_grows s m g None =
    either_grows m.output _ _ _ (starts_grows s m m.starts) (switches_grows s point.Ended m)
begins_grows s m g (Some it) = makes_grows s (with_current (record g { begin = None }) m) it false it.callee

-- ---- pieces

opens_grows : (s : Site) (it : Opened) → Grows s.machine.output (step_of.opens s it)
opens_grows s (puts work) = as_grows s _
opens_grows s (finds it) = value_grows s it

forks_grows : (s : Site) (decides : Bool) (right : TypedExpr) (it : Bool)
    → Grows s.machine.output (step_of.forks s decides right it)
forks_grows s true right true = as_grows s _
forks_grows s true right false = as_grows s _
forks_grows s false right true = as_grows s _
forks_grows s false right false = as_grows s _

operand_cut : (len : Option ℕ) (low high max : Option ℤ) (s : Site)
    → Grows s.machine.output (step_of.cut_operand len low high max s)
operand_cut len low high max s = one_grows s _ (λ it found. value_grows (taking_of.having s found) _)

low_cut : (len : Option ℕ) (has : Bool) (high max : Option ℤ) (s : Site)
    → Grows s.machine.output (step_of.cut_low len has high max s)
low_cut len has high max s =
    bound_grows has s (λ low s. step_of.cut_operand len low high max s)
    (λ low found. operand_cut len low high max (taking_of.having s found)) (operand_cut len None high max s)

high_cut : (len : Option ℕ) (has_low has : Bool) (max : Option ℤ) (s : Site)
    → Grows s.machine.output (step_of.cut_high len has_low has max s)
high_cut len has_low has max s =
    bound_grows has s (λ high s. step_of.cut_low len has_low high max s)
    (λ high found. low_cut len has_low high max (taking_of.having s found)) (low_cut len has_low None max s)

cuts_grows : (s : Site) (low high max : Bool) (len : Option ℕ) → Grows s.machine.output (step_of.cuts s low high max len)
cuts_grows s low high max len =
    bound_grows max s (λ max s. step_of.cut_high len low high max s)
    (λ found_max found. high_cut len low high found_max (taking_of.having s found)) (high_cut len low high None s)

channel_grows : (s : Site) (it : Comes Channels) → Grows s.machine.output (step_of.finds_channel s it)
channel_grows s (to it) = goes_grows _ _ (stays s.machine.output)
channel_grows s (faults it) = meets_grows s.setting s.machine it
channel_grows s nowhere = stuck_grows _

slice_grows : (s : Site) (of : TypeId) (has : Bool) → Grows s.machine.output (step_of.makes_slice s of has)
slice_grows s of true =
    two_grows s _ (λ len cap found. integer_grows s.machine.output len _ (λ len. integer_grows s.machine.output cap _
    (λ cap. stored_grows (taking_of.having s found) _)))
slice_grows s of false =
    one_grows s _ (λ len found. integer_grows s.machine.output len _ (λ len. stored_grows (taking_of.having s found) _))

map_grows : (s : Site) (has : Bool) → Grows s.machine.output (step_of.makes_map s has)
map_grows s true =
    one_grows s _ (λ hint found. stored_grows (taking_of.having s found) (step_of.map_made (taking_of.having s found)))
map_grows s false = stored_grows s (step_of.map_made s)

chan_grows : (s : Site) (of : TypeId) (has : Bool) → Grows s.machine.output (step_of.makes_chan s of has)
chan_grows s of true =
    one_grows s _ (λ size found. integer_grows s.machine.output size _ (λ size. channel_grows (taking_of.having s found) _))
chan_grows s of false = channel_grows s _

put_at_grows : (s : Site) (into : parts.Into) (place between found : List Val)
    → Grows s.machine.output (step_of.puts_at s into place between found)
put_at_grows s into place between [] = stuck_grows _
put_at_grows s into place between (it ∷ others) =
    changes_grows (taking_of.having s (reverse (between ++ others))) _

puts_grows : (s : Site) (into : parts.Into) (behind : ℕ) (found : List Val)
    → Grows s.machine.output (step_of.puts_value s into behind found)
puts_grows s into behind found =
    put_at_grows s into (take (count_into into) found) (take behind (drop (count_into into) found))
    (drop behind (drop (count_into into) found))

tests_grows : (s : Site) (tag : Option Typed) (clauses : List TypedClause)
    → Grows s.machine.output (flow_of.begins_tests s tag clauses)
tests_grows s tag clauses =
    first_test_grows s (record { tag = tag; tests = begun_of.tests_from 0 clauses; clauses = clauses })
    (begun_of.tests_from 0 clauses) (flow_of.from_default clauses)

type_tests_grows : (s : Site) (tag : Typed) (clauses : List TypeClause)
    → Grows s.machine.output (flow_of.begins_type_tests s tag clauses)
type_tests_grows s tag clauses =
    first_type_grows s (record { tag = Some tag; tests = begun_of.type_tests_from 0 clauses; clauses = clauses }) tag
    (begun_of.type_tests_from 0 clauses) (flow_of.from_type_default clauses)

literal_grows : (s : Site) (making : parts.Making) (of : TypeId) (own : Bool) (items : List Val)
    → Grows s.machine.output (step_of.makes_literal s making of own items)
literal_grows s making of own items =
    stored_grows s (then_to (where_addressed own)
    (literal_of (taking_of.program_of s) s.setting.answers (taking_of.store_of s) of making items))

acts_grows : (s : Site) (piece : Piece) → Grows s.machine.output (acts s piece)
unfolding acts
acts_grows s (parts.evaluate x) =
    opens_grows s (opened (taking_of.program_of s) s.frame (taking_of.store_of s) x)
acts_grows s (parts.address x) = opens_grows s (addressed (taking_of.program_of s) s.frame x)
acts_grows s (parts.operands x) = as_grows s _
acts_grows s (parts.address_field n) = one_grows s _ (λ it found. value_grows (taking_of.having s found) _)
acts_grows s (parts.address_item len) = two_grows s _ (λ a b found. value_grows (taking_of.having s found) _)
acts_grows s parts.address_element = two_grows s _ (λ a b found. value_grows (taking_of.having s found) _)
acts_grows s parts.check_pointer = one_grows s _ (λ it found. value_grows (taking_of.having s found) _)
acts_grows s (parts.field n) = one_grows s _ (λ it found. value_grows (taking_of.having s found) _)
acts_grows s parts.item = two_grows s _ (λ a b found. value_grows (taking_of.having s found) _)
acts_grows s parts.load = one_grows s _ (λ it found. value_grows (taking_of.having s found) _)
acts_grows s (parts.lookup comma_ok of) = two_grows s _ (λ a b found. value_grows (taking_of.having s found) _)
acts_grows s (parts.cut low high max len) = cuts_grows s low high max len
acts_grows s (parts.unary op kind) = one_grows s _ (λ it found. value_grows (taking_of.having s found) _)
acts_grows s (parts.binary op kind) = two_grows s _ (λ a b found. value_grows (taking_of.having s found) _)
acts_grows s (parts.fork decides right) =
    one_grows s _ (λ it found. truth_grows s.machine.output it _ (forks_grows (taking_of.having s found) decides right))
acts_grows s parts.join = as_grows s _
acts_grows s (parts.convert from wanted) = one_grows s _ (λ it found. stored_grows (taking_of.having s found) _)
acts_grows s (parts.to_interface from) = one_grows s _ (λ it found. value_grows (taking_of.having s found) _)
acts_grows s (parts.assert wanted comma_ok) = one_grows s _ (λ it found. value_grows (taking_of.having s found) _)
acts_grows s (parts.bind method) = one_grows s _ (λ it found. value_grows (taking_of.having s found) _)
acts_grows s parts.hold = one_grows s _ (λ it found. as_grows (taking_of.having s found) _)
acts_grows s (parts.receive of comma_ok) = receives_grows s of comma_ok s.frame.found
acts_grows s (parts.literal id) = value_grows s _
acts_grows s (parts.make_literal making of addressed) =
    with_last_grows s (making_count making) (λ items s. step_of.makes_literal s making of addressed items)
    (λ items found. literal_grows (taking_of.having s found) making of addressed items)
acts_grows s (parts.make_slice of has) = slice_grows s of has
acts_grows s (parts.make_map of has) = map_grows s has
acts_grows s (parts.make_chan of has) = chan_grows s of has
acts_grows s (parts.new_variable of) = stored_grows s _
acts_grows s (parts.counted len) =
    one_grows s _ (λ it found. value_grows (taking_of.having s found) (to (vals.number (pos len))))
acts_grows s (parts.call manner called count at) =
    with_last_grows s count (λ arguments s. returns_of.calls_with s manner called at arguments)
    (λ arguments found. calls_with_grows (taking_of.having s found) manner called at arguments)
acts_grows s (parts.built_in manner it count at) =
    with_last_grows s count (λ arguments s. returns_of.built_in_so s manner it at arguments)
    (λ arguments found. built_in_so_grows (taking_of.having s found) manner it at arguments)
acts_grows s (parts.simple stmt) =
    some_grows s.machine.output (taking_of.puts_pieces s) (begun_of.simple_pieces (taking_of.program_of s) stmt)
    (λ work. pieces_grows s work)
acts_grows s parts.drop = as_grows s _
acts_grows s parts.send = sends_grows s s.frame.found
acts_grows s (parts.put into behind) = puts_grows s into behind (reverse s.frame.found)
acts_grows s (parts.put_zero v) =
    some_grows s.machine.output (λ (it : Changed). taking_of.changes s (to it))
    (begun_zero (taking_of.program_of s) s.frame.function (taking_of.store_of s) s.frame.env v)
    (λ it. changes_grows s (to it))
acts_grows s (parts.get place) = value_grows s _
acts_grows s (parts.give values) =
    returns_in_grows s values (calls_of.body_at (taking_of.program_of s) s.frame.function)
acts_grows s (parts.branch body arms otherwise) =
    one_grows s _ (λ it found. truth_grows s.machine.output it _
    (branches_grows (taking_of.having s found) body arms otherwise))
acts_grows s (parts.hold_tag of clauses) =
    one_grows s _ (λ it found.
    tests_grows (taking_of.having s found) (Some (record { of = of; value = it })) clauses)
acts_grows s (parts.no_tag clauses) = tests_grows s None clauses
acts_grows s (parts.hold_operand of clauses) =
    one_grows s _ (λ it found.
    type_tests_grows (taking_of.having s found) (record { of = of; value = it }) clauses)
acts_grows s parts.pick_default = picks_grows s s.frame.later
acts_grows s parts.pick_type_default = type_picks_grows s s.frame.later
acts_grows s parts.widen = widens_grows s (flow_of.tag_in s.frame.later)
acts_grows s parts.match_tag = one_grows s _ (λ it found. tag_grows (taking_of.having s found) it (flow_of.tag_in s.frame.later))
acts_grows s parts.match_widened = two_grows s _ (λ tag it found. compared_grows (taking_of.having s found) _)
acts_grows s parts.match_truth =
    one_grows s _ (λ it found. truth_grows s.machine.output it _
    (matches_grows (taking_of.having s found) s.frame.later))
acts_grows s parts.is_case = is_case_grows s s.frame.later
acts_grows s (parts.bind_clause v it) =
    changes_grows s (to (begun (taking_of.program_of s) s.frame.function v it (taking_of.store_of s) s.frame.env))
acts_grows s (parts.enter_loop loop) = as_grows s _
acts_grows s parts.decide =
    one_grows s _ (λ it found. truth_grows s.machine.output it _
    (decides_grows (taking_of.having s found) s.frame.later))
acts_grows s parts.begin_body =
    tick_grows s.machine.ticks s.machine _
    (λ k. body_grows (record s { machine = record (s.machine) { ticks = k } }) s.frame.later)
acts_grows s (parts.copy_variables vs) = changes_grows s _
acts_grows s parts.back = as_grows s _
acts_grows s (parts.enter_range loop) = loop_grows s loop loop.over
acts_grows s parts.got = one_grows s _ (λ it found. received_grows (taking_of.having s found) s.frame.later (value_at it 0) (value_at it 1))
acts_grows s (parts.turn_values loop about) =
    turn_grows s loop (turn_pair (taking_of.store_of s) loop.targets about)
acts_grows s (parts.select clauses) = selects_grows s clauses
acts_grows s (parts.chosen clause it) = chosen_grows s clause.body clause.comm it

-- ---- a step

continues_grows : (s : Site) (later : List Later) → Grows s.machine.output (continues s later)
unfolding continues
continues_grows s [] = as_grows s _
continues_grows s (parts.rest stmts ∷ later) = rest_grows s stmts later
continues_grows s (parts.leave ∷ later) = as_grows s _
continues_grows s (parts.leave_clause bodies ∷ later) = as_grows s _
continues_grows s (parts.cases c ∷ later) = stuck_grows _
continues_grows s (parts.type_cases c ∷ later) = stuck_grows _
continues_grows s (parts.again loop ∷ later) = again_grows s loop loop.condition
continues_grows s (parts.behind_body loop ∷ later) = as_grows s _
continues_grows s (parts.turn loop at ∷ later) = seeks_grows s loop at later (sought (taking_of.store_of s) s.machine.sched at)
continues_grows s (parts.next_turn loop at ∷ later) = as_grows s _
continues_grows s (parts.initialise step ∷ later) = as_grows s _
continues_grows s (parts.start id at ∷ later) =
    so_grows (record s { frame = record (s.frame) { later = later } }) parts.at_once
    (returns_of.readied s at (parts.of_function id []) [])

does_grows : (s : Site) (work : List Piece) → Grows s.machine.output (step_of.does s work)
does_grows s [] = continues_grows s s.frame.later
does_grows s (piece ∷ work) = acts_grows (record s { frame = record (s.frame) { work = work } }) piece

moves_grows : (s : Setting) (m : Machine) (g : Goroutine) (top : Frame) (below : List Frame) (state : FrameState)
    → Grows m.output (step_of.moves s m g top below state)
moves_grows s m g top below running = does_grows (step_of.site_of s m g top below) top.work
moves_grows s m g top below returning = unwinds_grows s m g top below top.defers
moves_grows s m g top below (panicking thrown) = unwinds_grows s m g top below top.defers

on_grows : (s : Setting) (m : Machine) (g : Goroutine) (frames : List Frame)
    → Grows m.output (step_of.steps_on s m g frames)
on_grows s m g [] = begins_grows s m g g.begin
on_grows s m g (top ∷ below) = moves_grows s m g top below top.state

pub step_grows : (s : Setting) (m : Machine) → Grows m.output (step s m)
unfolding step
step_grows s m = some_grows m.output _ (current m) (λ g. on_grows s (step_of.with_room m) g g.frames)
