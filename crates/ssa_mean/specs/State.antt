-- The state of a run of code: goroutines of frames, what they share, and what is left of the choices and the ticks.
use Rattle.std.specs.Prelude.{ℕ, suc, List, Option, Some, None, Bool, slice_get, slice_set}
use Rattle.go_base.specs.declared.ending.Ending.{Ending}
use Rattle.go_base.specs.declared.ids.FuncId.{FuncId}
use Rattle.go_sched.specs.Goroutines.{State}
use Rattle.go_store.specs.Stores.{Stored}
use Rattle.go_type.specs.declared.operators.Builtin.{Builtin}
use Rattle.go_value.specs.Values.{Val}
use Rattle.go_value.specs.declared.faults.Fault.{Fault}

-- ---- calls that are made later. Go specification, "Defer statements" and "Go statements"

-- a built-in function as the types of its operands make it: what `append` appends, with the leaves of an element, and
-- the zero value that `clear` puts into the elements of a slice
pub data BuiltIn : Type 0 where
  appends_items : ℕ → BuiltIn
  appends_slice : ℕ → BuiltIn
  appends_text : ℕ → BuiltIn
  clears_slice : Val → BuiltIn
  plain : Builtin → BuiltIn

-- what is called: a function, with the values of its free variables; a built-in function; a function value that is nil
pub data Callee : Type 0 where
  of_function : FuncId → List Val → Callee
  of_built_in : BuiltIn → Callee
  of_nil : Callee

-- a call whose operands are known; `chain` is how many invokes of promotion wrappers led to it
pub record Later : Type 0 where
  pub callee : Callee
  pub arguments : List Val
  pub chain : ℕ

-- ---- frames

-- what a panic carries: a value, or the text of a run-time fault in a code that has no type for its value
pub data Thrown : Type 0 where
  of_value : Val → Thrown
  of_text : List ℕ → Thrown

-- what a frame is about. Go specification, "Handling panics": one that returns or panics makes its deferred calls
pub data FrameState : Type 0 where
  running : FrameState
  returning : FrameState
  panicking : Thrown → FrameState

-- a call of a function that has not returned
pub record Frame : Type 0 where
  pub function : FuncId
  -- the block, and the place in it of the next instruction
  pub block : ℕ
  pub place : ℕ
  pub parameters : List Val
  pub free : List Val
  -- by their numbers; those that are not written yet have no value
  pub registers : List (Option Val)
  -- the deferred calls, the last first
  pub defers : List Later
  pub state : FrameState
  -- whether it was started as a deferred call
  pub deferred : Bool
  -- the register of the frame below that gets the results
  pub result : Option ℕ
  pub chain : ℕ

-- ---- goroutines

pub record Goroutine : Type 0 where
  -- the top one first
  pub frames : List Frame
  -- the call with which it begins
  pub begin : Option Later
  -- a fault that it meets as it goes on
  pub fault : Option Fault

-- ---- the whole

pub record Machine : Type 0 where
  -- by their numbers
  pub goroutines : List Goroutine
  -- what goroutine 0 is still to call, one after another
  pub starts : List FuncId
  pub store : Stored
  -- the channels, who runs and who may, and the choices that are left
  pub sched : State
  -- the ticks that are left
  pub ticks : ℕ
  pub output : List ℕ

-- what a step leads to: a further state; the ending of the run, with its output; or nothing, where typed code never
-- comes
pub data Next : Type 0 where
  goes : Machine → Next
  ends : Ending → List ℕ → Next
  stuck : Next

abbrev pub where_there : {A : Type 0} → (A → Next) → Option A → Next
where_there next None = stuck
where_there next (Some it) = next it

-- ---- the goroutine that runs, and its frames

abbrev pub current : Machine → Option Goroutine
current m = slice_get m.goroutines m.sched.current.number

abbrev pub with_goroutine : ℕ → Goroutine → Machine → Machine
with_goroutine place g m = record m { goroutines = slice_set m.goroutines place g }

abbrev pub with_current : Goroutine → Machine → Machine
with_current g m = with_goroutine m.sched.current.number g m

abbrev pub with_frames : Goroutine → List Frame → Machine → Machine
with_frames g frames m = with_current (record g { frames = frames }) m

-- ---- changes of a frame

-- a register gets a value
abbrev pub with_register : ℕ → Val → Frame → Frame
with_register register it frame = record frame { registers = slice_set frame.registers register (Some it) }

-- a register gets a value, where there is one of each
abbrev pub with_result : Option ℕ → Option Val → Frame → Frame
with_result (Some register) (Some it) frame = with_register register it frame
with_result _ _ frame = frame

-- the place behind the instruction
abbrev pub advanced : Frame → Frame
advanced frame = record frame { place = suc frame.place }
