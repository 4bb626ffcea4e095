-- Panics, switch points, and endings. Go specification, "Handling panics", "Run-time panics" and "Go statements".
use Rattle.std.specs.Prelude.{ℕ, zero, suc, Bool, true, false, ◌&&◌, List, [], ◌∷◌, Option, Some, None}
use Rattle.std.specs.Prelude.{if◌then◌else◌}
use Rattle.std.specs.Option.{option_map_or}
use Rattle.go_base.specs.declared.ending.Ending.TheVariants as ending
use Rattle.go_base.specs.declared.ids.GoId.{GoId}
use Rattle.go_sched.specs.Choices.{next_at, switched}
use Rattle.go_sched.specs.declared.scheduling.Point.{Point}
use Rattle.go_value.specs.Values.{Val, nil_interface}
use Rattle.go_value.specs.declared.faults.Fault.{Fault}
use Rattle.go_value.specs.declared.faults.Fault.TheVariants as fault
use Rattle.ssa_ir.specs.Blocks.{instrs_at}
use Rattle.ssa_ir.specs.declared.code.Code.{Code}
use Rattle.ssa_ir.specs.declared.code.Function.{Function}
use Rattle.ssa_ir.specs.declared.code.FunctionKind.{FunctionKind}
use Rattle.ssa_ir.specs.declared.code.FunctionKind.TheVariants as kind
use Rattle.ssa_ir.specs.declared.ops.Instr.{Instr}
use Rattle.ssa_ir.specs.declared.ops.Op.{Op}
use Rattle.ssa_ir.specs.declared.ops.Op.TheVariants as op
use Rattle.ssa_mean.specs.Faults.{thrown_by, thrown_text}
use Rattle.ssa_mean.specs.Operands.{function_at}
use Rattle.ssa_mean.specs.State.{Frame, FrameState, running, returning, panicking, Thrown, of_value, Goroutine}
use Rattle.ssa_mean.specs.State.{Machine, Next, goes, ends, where_there, current, with_current, with_frames}

-- ---- kinds of functions

abbrev pub is_source_kind : FunctionKind → Bool
is_source_kind kind.Source = true
is_source_kind _ = false

abbrev pub is_wrapper_kind : FunctionKind → Bool
is_wrapper_kind kind.Wrapper = true
is_wrapper_kind _ = false

abbrev pub is_source : Code → Frame → Bool
is_source code frame =
    option_map_or (λ function. is_source_kind function.kind) (function_at code frame.function) false

abbrev pub is_wrapper : Code → Frame → Bool
is_wrapper code frame =
    option_map_or (λ function. is_wrapper_kind function.kind) (function_at code frame.function) false

-- ---- where frames stand

abbrev pub is_phi : Op → Bool
is_phi (op.Phi edges) = true
is_phi _ = false

-- how many phis stand first
abbrev pub phis_first : List Instr → ℕ
phis_first [] = 0
phis_first (instr ∷ instrs) = if is_phi instr.op then suc (phis_first instrs) else 0

-- a frame at the first instruction of a block that is no phi
abbrev pub at_block : Function → ℕ → Frame → Frame
at_block function block frame =
    record frame { block = block; place = phis_first (instrs_at function block) }

-- a function that holds a `defer` has a block that gives its results after a recovery
abbrev pub at_recovery : Option Function → Frame → Frame
at_recovery None frame = frame
at_recovery (Some function) frame =
    option_map_or (λ block. at_block function block.number frame) function.recover frame

-- ---- panics

-- a frame that begins to panic goes on, where it recovers, at its recover block
abbrev pub panics : Code → Thrown → Frame → Frame
panics code thrown frame = record (at_recovery (function_at code frame.function) frame) { state = panicking thrown }

-- the run ends where there is no frame
abbrev pub panicked : Code → Machine → Thrown → Next
panicked code m thrown = where_there (λ words. ends (ending.Panicked words) m.output) (thrown_text code thrown)

-- the top frame panics
abbrev pub throws_from : Code → Machine → Goroutine → List Frame → Thrown → Next
throws_from code m g [] thrown = panicked code m thrown
throws_from code m g (top ∷ below) thrown = goes (with_frames g (panics code thrown top ∷ below) m)

abbrev pub throws : Code → Machine → Thrown → Next
throws code m thrown = where_there (λ g. throws_from code m g g.frames thrown) (current m)

-- a run-time fault in the current goroutine
abbrev pub meets : Code → Machine → Fault → Next
meets code m it = throws code m (thrown_by code it)

-- a panic with a value; one of a nil interface is a fault
abbrev pub panics_with : Code → Machine → Val → Next
panics_with code m nil_interface = meets code m fault.PanicNil
panics_with code m it = throws code m (of_value it)

-- ---- ticks and switch points

-- a tick is spent; where none is left the run ends
abbrev pub with_tick : ℕ → Machine → (Machine → Next) → Next
with_tick zero m next = ends ending.Bound m.output
with_tick (suc n) m next = next (record m { ticks = n })

abbrev pub spends : Machine → (Machine → Next) → Next
spends m next = with_tick m.ticks m next

-- a goroutine that goes on meets the fault that waits for it
abbrev pub goes_with : Code → Machine → Goroutine → Option Fault → Next
goes_with code m g None = goes m
goes_with code m g (Some it) = meets code (with_current (record g { fault = None }) m) it

abbrev pub goes_on : Code → Machine → Next
goes_on code m = where_there (λ g. goes_with code m g g.fault) (current m)

abbrev pub chosen : Code → Option GoId → Machine → Next
chosen code None m = ends ending.Deadlock m.output
chosen code (Some it) m = goes_on code m

-- a tick is spent, and a goroutine is chosen; where none may run, all are asleep
abbrev pub switches : Code → Point → Machine → Next
switches code point m =
    spends m (λ m. chosen code (next_at point m.sched) (record m { sched = switched point m.sched }))

-- ---- a frame that returns or panics, and has no deferred calls any more

-- without the wrappers on top: to a panic they are part of the call that they pass on
abbrev pub below_wrappers : Code → List Frame → List Frame
below_wrappers code [] = []
below_wrappers code (frame ∷ frames) = if is_wrapper code frame then below_wrappers code frames else frame ∷ frames

-- one that panics is removed, and the frame below panics; one that returns goes on at its place
abbrev pub unwound : Code → Machine → Goroutine → Frame → List Frame → FrameState → Next
unwound code m g top below (panicking thrown) = throws_from code m g (below_wrappers code below) thrown
unwound code m g top below _ = goes (with_frames g (record top { state = running } ∷ below) m)

-- ---- `recover`

-- what a frame that panics gives; it returns then
abbrev pub recovered_state : FrameState → FrameState
recovered_state (panicking (of_value it)) = returning
recovered_state it = it

abbrev pub recovered_value : FrameState → Val
recovered_value (panicking (of_value it)) = it
recovered_value _ = nil_interface

-- the first frame that is no wrapper, where `recover` acts
abbrev pub recovering : Code → List Frame → List Frame
recovering code [] = []
recovering code (frame ∷ frames) =
    if is_wrapper code frame then frame ∷ recovering code frames
    else record frame { state = recovered_state frame.state } ∷ frames

abbrev pub recovered : Code → List Frame → Val
recovered code [] = nil_interface
recovered code (frame ∷ frames) =
    if is_wrapper code frame then recovered code frames else recovered_value frame.state

-- it acts in a source function that was started as a deferred call
abbrev pub may_recover : Code → Frame → Bool
may_recover code top = top.deferred && is_source code top
