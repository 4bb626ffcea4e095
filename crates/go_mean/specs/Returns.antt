-- Calls that pieces make, what a return gives, and what a frame does that returns or panics. Go specification, "Calls",
-- "Return statements", "Defer statements", "Go statements", "Built-in functions" and "Handling panics".
use Rattle.std.specs.Prelude.{ℕ, ◌==◌, Bool, true, false, List, [], ◌∷◌, ◌++◌, reverse, Option, Some, None}
use Rattle.std.specs.Prelude.{if◌then◌else◌}
use Rattle.go_base.specs.declared.ending.Ending.TheVariants as ending
use Rattle.go_base.specs.declared.ids.FuncId.{FuncId}
use Rattle.go_base.specs.declared.ids.NameId.{NameId}
use Rattle.go_base.specs.declared.ids.VarId.{VarId}
use Rattle.go_base.specs.declared.place.Pos.{Pos}
use Rattle.go_sched.specs.declared.scheduling.Point.TheVariants as point
use Rattle.go_tree.specs.declared.program.Body.{Body}
use Rattle.go_tree.specs.declared.program.Program.{Program}
use Rattle.go_type.specs.declared.operators.Builtin.TheVariants as builtin
use Rattle.go_value.specs.Values.{Val, nil_interface}
use Rattle.go_value.specs.declared.faults.Fault.TheVariants as fault
use Rattle.ssa_mean.specs.BuiltIns.{Done, built_in_call}
use Rattle.ssa_mean.specs.Calls.{results_of}
use Rattle.ssa_mean.specs.Comes.{Comes, to, faults, nowhere, and_then, then_to}
use Rattle.ssa_mean.specs.State.{BuiltIn, plain, FrameState, returning, panicking}
use Rattle.go_mean.specs.Calls.{body_at, called_value, with_callee, wanted, selected, selected_of, calls, calls_method}
use Rattle.go_mean.specs.Calls.{with_new, starts_with}
use Rattle.go_mean.specs.Channels.{closes_of}
use Rattle.go_mean.specs.Places.{Changed, set_variable, value_of}
use Rattle.go_mean.specs.State.{Setting, Called, by_function, by_method, by_value, Manner, at_once, deferring, going}
use Rattle.go_mean.specs.State.{Callee, of_function, of_method, of_expression, of_built_in, of_nil, Readied, Frame}
use Rattle.go_mean.specs.State.{Goroutine, Machine, Next, goes, ends, stuck, where_there, with_current}
use Rattle.go_mean.specs.State.{with_frames, Site, with_frame, goes_as, finding}
use Rattle.go_mean.specs.Taking.{with_one, at_store, program_of, store_of}
use Rattle.go_mean.specs.Unwinding.{function_at, meets, panics_with, throws_from, switches, may_recover, recovered}
use Rattle.go_mean.specs.Unwinding.{recovering}

-- ---- built-in functions

-- what is written is put behind the output
abbrev pub wrote : List ℕ → Machine → Machine
wrote bytes m = record m { output = m.output ++ bytes }

abbrev pub with_found : Option Val → Frame → Frame
with_found None frame = frame
with_found (Some it) frame = finding it frame

abbrev pub finishes : Site → Comes Done → Next
finishes s (to it) =
    goes_as (record s { machine = record (s.machine) { store = it.store; output = s.machine.output ++ it.written } })
    (with_found it.value s.frame)
finishes s (faults it) = meets s.setting s.machine it
finishes s nowhere = stuck

abbrev pub panics_of : Setting → Machine → List Val → Next
panics_of s m (it ∷ []) = panics_with s m it
panics_of s m _ = stuck

abbrev pub recovers : Site → Next
recovers s =
    if may_recover (program_of s) s.frame
    then goes (with_frames s.goroutine (finding (recovered s.below) s.frame ∷ recovering s.below) s.machine)
    else goes_as s (finding nil_interface s.frame)

-- one that a piece calls
abbrev pub calls_built_in : Site → BuiltIn → List Val → Next
calls_built_in s (plain builtin.Close) arguments = closes_of s.setting s.machine (with_frame s s.frame) arguments
calls_built_in s (plain builtin.Panic) arguments = panics_of s.setting s.machine arguments
calls_built_in s (plain builtin.Recover) arguments = recovers s
calls_built_in s it arguments =
    finishes s (built_in_call s.setting.answers s.machine.store s.machine.sched it arguments)

-- one in a frame of its own, which is no frame of a function of the source: `recover` gives nothing there
abbrev pub alone_wrote : Setting → Machine → Comes Done → Next
alone_wrote s m (to it) = goes (record m { store = it.store; output = m.output ++ it.written })
alone_wrote s m (faults it) = meets s m it
alone_wrote s m nowhere = stuck

abbrev pub alone : Setting → Machine → BuiltIn → List Val → Next
alone s m (plain builtin.Close) arguments = closes_of s m m arguments
alone s m (plain builtin.Panic) arguments = panics_of s m arguments
alone s m (plain builtin.Recover) arguments = goes m
alone s m it arguments = alone_wrote s m (built_in_call s.answers m.store m.sched it arguments)

-- ---- calls

-- a call whose operands are known is made
abbrev pub makes : Setting → Machine → Readied → Bool → Callee → Next
makes s m it deferred (of_function id captured) = calls s m it deferred id captured it.arguments
makes s m it deferred (of_method name package_number) =
    calls_method s m it deferred (selected s.program.types m.store (wanted name package_number)) it.arguments
makes s m it deferred (of_expression of name package_number) =
    calls_method s m it deferred (selected_of s.program.types m.store (wanted name package_number) of) it.arguments
makes s m it deferred (of_built_in called) = alone s m called it.arguments
makes s m it deferred of_nil = meets s m fault.NilPointer

-- at once, or as a deferred call, or by a new goroutine
abbrev pub calls_so : Site → Manner → Readied → Next
calls_so s at_once it = makes s.setting (with_frame s s.frame) it false it.callee
calls_so s deferring it = goes_as s (record (s.frame) { defers = it ∷ s.frame.defers })
calls_so s going it = switches s.setting point.After (with_new it (with_frame s s.frame))

abbrev pub readied : Site → Pos → Callee → List Val → Readied
readied s at callee arguments = with_callee s.frame.function at callee arguments

-- a method of a nil interface is refused where it is deferred or started
abbrev pub calls_interface : Site → Manner → Pos → NameId → ℕ → Val → List Val → Next
calls_interface s manner at name package_number nil_interface arguments =
    meets s.setting s.machine fault.NilPointer
calls_interface s manner at name package_number receiver arguments =
    calls_so s manner (readied s at (of_method name package_number) (receiver ∷ arguments))

abbrev pub calls_called : Site → Manner → Pos → Option (Callee × List Val) → Next
calls_called s manner at None = stuck
calls_called s manner at (Some called) = calls_so s manner (readied s at called.0 called.1)

-- the function value or the receiver stands before the arguments
abbrev pub calls_with : Site → Manner → Called → Pos → List Val → Next
calls_with s manner (by_function id) at arguments = calls_so s manner (readied s at (of_function id []) arguments)
calls_with s manner (by_method name package_number) at arguments =
    with_one s (λ receiver s. calls_interface s manner at name package_number receiver arguments)
calls_with s manner by_value at arguments =
    with_one s (λ it s. calls_called s manner at (called_value it arguments))

abbrev pub built_in_so : Site → Manner → BuiltIn → Pos → List Val → Next
built_in_so s at_once it at arguments = calls_built_in s it arguments
built_in_so s manner it at arguments = calls_so s manner (readied s at (of_built_in it) arguments)

-- ---- "Return statements": the results get their values; then the deferred calls are made; then the results are given
-- as they stand

abbrev pub results_in : Option Body → List VarId
results_in None = []
results_in (Some body) = body.results

abbrev pub defers_in : Option Body → Bool
defers_in None = false
defers_in (Some body) = body.has_defer

-- the variables of results in order
abbrev pub set_results : Program → Frame → Changed → List VarId → List Val → Comes Changed
set_results p frame at [] [] = to at
set_results p frame at (v ∷ vs) (it ∷ items) =
    and_then (λ at. set_results p frame at vs items)
    (set_variable p at.store (record frame { env = at.env }) v it)
set_results p frame at _ _ = nowhere

abbrev pub results_now : Program → Machine → Frame → List VarId → Comes (List Val)
results_now p m frame [] = to []
results_now p m frame (v ∷ vs) =
    and_then (λ it. then_to (λ others. it ∷ others) (results_now p m frame vs)) (value_of p m.store frame v)

-- the frame below finds the results; those of a deferred call are dropped
abbrev pub given : Frame → List Val → List Frame → List Frame
given top results [] = []
given top results (caller ∷ below) =
    (if top.deferred then caller else with_found (results_of results) caller) ∷ below

abbrev pub gives_to : Setting → Machine → Goroutine → Frame → List Frame → Comes (List Val) → Next
gives_to s m g top below (to results) = goes (with_frames g (given top results below) m)
gives_to s m g top below _ = stuck

abbrev pub gives : Setting → Machine → Goroutine → Frame → List Frame → Next
gives s m g top below =
    gives_to s m g top below (results_now s.program m top (results_in (body_at s.program top.function)))

-- a function without `defer` gives its results at once
abbrev pub returns_with : Site → Bool → Next
returns_with s true =
    goes_as s (record (s.frame) { state = returning; work = []; later = []; found = [] })
returns_with s false = gives s.setting s.machine s.goroutine s.frame s.below

abbrev pub returns_as : Site → Body → Changed → Next
returns_as s body it =
    returns_with (record (at_store it.store s) { frame = record (s.frame) { env = it.env } }) body.has_defer

abbrev pub returns_comes : Site → Body → Comes Changed → Next
returns_comes s body (to it) = returns_as s body it
returns_comes s body (faults it) = meets s.setting s.machine it
returns_comes s body nowhere = stuck

abbrev pub as_it_is : Site → Changed
as_it_is s = record { store = store_of s; env = s.frame.env }

-- with the values that were found, or without any
abbrev pub returns_in : Site → Bool → Option Body → Next
returns_in s values None = returns_with s false
returns_in s true (Some body) =
    returns_comes s body
    (set_results (program_of s) s.frame (as_it_is s) body.results (reverse s.frame.found))
returns_in s false (Some body) = returns_as s body (as_it_is s)

abbrev pub returns : Site → Bool → Next
returns s values = returns_in s values (body_at (program_of s) s.frame.function)

-- ---- "Handling panics": a frame that returns or panics makes its last deferred call; one without any that panics is
-- removed, and the frame below panics; one that returns gives its results

abbrev pub unwound : Setting → Machine → Goroutine → Frame → List Frame → FrameState → Next
unwound s m g top below (panicking thrown) = throws_from s m g below thrown
unwound s m g top below _ = gives s m g top below

abbrev pub unwinds : Setting → Machine → Goroutine → Frame → List Frame → List Readied → Next
unwinds s m g top below [] = unwound s m g top below top.state
unwinds s m g top below (it ∷ others) =
    makes s (with_frames g (record top { defers = others } ∷ below) m) it true it.callee

-- ---- a goroutine without frames: it begins; goroutine 0 goes on with what it is to call, and the run ends with it;
-- another ends, which is a switch point

abbrev pub starts_next : Setting → Machine → List FuncId → Next
starts_next s m [] = ends (ending.Exited 0) m
starts_next s m (id ∷ others) =
    where_there (λ declared. starts_with s (record m { starts = others }) id declared declared.form)
    (function_at s.program id)

abbrev pub ends_or_starts : Setting → Machine → ℕ → Next
ends_or_starts s m goroutine =
    if goroutine == 0 then starts_next s m m.starts else switches s point.Ended m

abbrev pub begins : Setting → Machine → Goroutine → Option Readied → Next
begins s m g None = ends_or_starts s m m.sched.current.number
begins s m g (Some it) = makes s (with_current (record g { begin = None }) m) it false it.callee
