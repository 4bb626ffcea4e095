-- Panics, switch points, and endings. Go specification, "Handling panics", "Run-time panics" and "Go statements".
use Rattle.std.specs.Prelude.{ℕ, zero, suc, pred, ◌==◌, Bool, true, false, ◌&&◌, List, [], ◌∷◌, Option, Some}
use Rattle.std.specs.Prelude.{None, if◌then◌else◌, slice_get}
use Rattle.std.specs.Option.{option_map_or}
use Rattle.code_plan.specs.declared.steps.Role.{Role}
use Rattle.code_plan.specs.declared.steps.Role.TheVariants as role
use Rattle.go_base.specs.declared.ending.Ending.TheVariants as ending
use Rattle.go_base.specs.declared.ids.GoId.{GoId}
use Rattle.go_sched.specs.Choices.{next_at, switched}
use Rattle.go_sched.specs.declared.scheduling.Point.{Point}
use Rattle.go_value.specs.Values.{Val, nil_interface}
use Rattle.go_value.specs.declared.faults.Fault.{Fault}
use Rattle.go_value.specs.declared.faults.Fault.TheVariants as fault
use Rattle.plan_mean.specs.Slots.{below_top}
use Rattle.plan_mean.specs.State.{World, Frame, Goroutine, Machine, Next, goes, ends, where_there}
use Rattle.plan_mean.specs.State.{with_current, with_frames, swapped}
use Rattle.ssa_mean.specs.Faults.{thrown_with, value_text}
use Rattle.ssa_mean.specs.Runes.{as_characters}
use Rattle.ssa_mean.specs.State.{FrameState, running, panicking, Thrown, of_value, of_text}
use Rattle.ssa_mean.specs.Unwinding.{recovered_state, recovered_value}
use Rattle.value_texts.specs.Texts.{fault_string}

-- ---- kinds of functions

abbrev pub is_source : Role → Bool
is_source role.Source = true
is_source _ = false

abbrev pub is_wrapper : Role → Bool
is_wrapper role.Wrapper = true
is_wrapper _ = false

abbrev pub is_wrapper_frame : Frame → Bool
is_wrapper_frame frame = is_wrapper frame.function.role

-- ---- where frames stand

-- a frame at the beginning of a block
abbrev pub at_block : ℕ → Frame → Frame
at_block block frame =
    option_map_or (λ it. record frame { block = block; steps = it.steps.items; step = 0 })
    (slice_get frame.function.blocks.items block) frame

-- a function that holds a `defer` has a block that gives its results after a recovery
abbrev pub at_recovery : Frame → Frame
at_recovery frame = option_map_or (λ block. at_block block frame) frame.function.recover frame

-- ---- frames that go

-- how many frames of source functions there are when one goes
abbrev pub sources_without : Frame → ℕ → ℕ
sources_without frame sources = if is_source frame.function.role then pred sources else sources

-- without its top frame
abbrev pub popped : Goroutine → Goroutine
popped g = record g { frames = frames_below g.frames; slots = below_top g.slots; sources = without_top g.frames }
  where
    frames_below : List Frame → List Frame
    frames_below [] = []
    frames_below (top ∷ below) = below

    without_top : List Frame → ℕ
    without_top [] = g.sources
    without_top (top ∷ below) = sources_without top g.sources

-- ---- panics

-- the text of what is thrown
abbrev pub text_of_thrown : World → Thrown → Option (List ℕ)
text_of_thrown w (of_value it) = value_text w.naming w.plan.error_string it
text_of_thrown w (of_text words) = Some words

-- the run ends where there is no frame
abbrev pub panicked : World → Thrown → Machine → Next
panicked w thrown m = where_there (λ words. ends (ending.Panicked words) m.output) (text_of_thrown w thrown)

-- the top frame panics; it goes on, where it recovers, at its recover block
abbrev pub throws_from : World → Thrown → Machine → List Frame → Next
throws_from w thrown m [] = panicked w thrown m
throws_from w thrown m (top ∷ below) =
    goes (with_frames (record (at_recovery top) { state = panicking thrown } ∷ below) m)

abbrev pub throws : World → Thrown → Machine → Next
throws w thrown m = throws_from w thrown m m.current.frames

-- what a fault throws: a value of `runtime.errorString`, where the code has that type, and else its text alone
abbrev pub shown : Thrown → Thrown
shown (of_text words) = of_text (as_characters words)
shown it = it

abbrev pub thrown_by : World → Fault → Thrown
thrown_by w it = shown (thrown_with (fault_string w.naming it) w.plan.error_string)

-- a run-time fault in the current goroutine
abbrev pub meets : World → Fault → Machine → Next
meets w it m = throws w (thrown_by w it) m

-- a panic with a value; one of a nil interface is a fault
abbrev pub panics_with : World → Machine → Val → Next
panics_with w m nil_interface = meets w fault.PanicNil m
panics_with w m it = throws w (of_value it) m

-- ---- ticks and switch points

-- a tick is spent; where none is left the run ends
abbrev pub with_tick : ℕ → Machine → (Machine → Next) → Next
with_tick zero m next = ends ending.Bound m.output
with_tick (suc n) m next = next (record m { ticks = n })

abbrev pub spends : Machine → (Machine → Next) → Next
spends m next = with_tick m.ticks m next

-- a goroutine that goes on meets the fault that waits for it
abbrev pub goes_with : World → Machine → Option Fault → Next
goes_with w m None = goes m
goes_with w m (Some it) = meets w it (with_current (record (m.current) { fault = None }) m)

-- another goroutine runs than before
abbrev pub changed : ℕ → ℕ → Machine → Machine
changed before now m = if before == now then m else swapped now (swapped before m)

abbrev pub runs_on : World → ℕ → Option GoId → Machine → Next
runs_on w before None m = ends ending.Deadlock m.output
runs_on w before (Some it) m =
    let now = changed before it.number m in
    goes_with w now now.current.fault

-- a tick is spent, and a goroutine is chosen; where none may run, all are asleep
abbrev pub switches : World → Point → Machine → Next
switches w point m =
    spends m (λ m. runs_on w m.sched.current.number (next_at point m.sched)
    (record m { sched = switched point m.sched }))

-- ---- a frame that returns or panics, and has no deferred calls any more

-- the frames of wrappers on top go
abbrev pub without_wrappers : List Frame → Goroutine → Goroutine
without_wrappers [] g = g
without_wrappers (top ∷ below) g = if is_wrapper_frame top then without_wrappers below (popped g) else g

abbrev pub removed : Goroutine → Goroutine
removed g =
    let now = popped g in
    without_wrappers now.frames now

-- one that panics is removed, with the wrappers below it, and the frame below panics; one that returns goes on
abbrev pub unwound : World → Machine → Frame → List Frame → FrameState → Next
unwound w m top below (panicking thrown) =
    throws w thrown (with_current (removed m.current) m)
unwound w m top below _ = goes (with_frames (record top { state = running } ∷ below) m)

-- ---- `recover`: it acts in a source function that was started as a deferred call, on the first frame below that is no
-- wrapper

abbrev pub recovering : List Frame → List Frame
recovering [] = []
recovering (frame ∷ frames) =
    if is_wrapper_frame frame then frame ∷ recovering frames
    else record frame { state = recovered_state frame.state } ∷ frames

abbrev pub recovered : List Frame → Val
recovered [] = nil_interface
recovered (frame ∷ frames) = if is_wrapper_frame frame then recovered frames else recovered_value frame.state

abbrev pub may_recover : Frame → Bool
may_recover top = top.deferred && is_source top.function.role
