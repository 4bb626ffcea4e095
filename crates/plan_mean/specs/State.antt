-- The state of a run of planned code: goroutines of frames with slots, what they share, and what is left of the choices
-- and the ticks. It is that of `ssa_mean`, but that operands have become slots.
use Rattle.std.specs.Prelude.{ℕ, suc, pred, List, [], ◌∷◌, Option, Some, None, Bool, slice_get, slice_set}
use Rattle.std.specs.Option.{option_map_or}
use Rattle.code_plan.specs.declared.steps.BuiltinForm.{BuiltinForm}
use Rattle.code_plan.specs.declared.steps.Plan.{Plan}
use Rattle.code_plan.specs.declared.steps.PlannedFunction.{PlannedFunction}
use Rattle.code_plan.specs.declared.steps.Step.{Step}
use Rattle.go_base.specs.declared.ending.Ending.{Ending}
use Rattle.go_sched.specs.Goroutines.{State}
use Rattle.go_store.specs.Stores.{Stored}
use Rattle.go_text.specs.Naming.{Naming}
use Rattle.go_value.specs.Values.{Val}
use Rattle.go_value.specs.declared.faults.Fault.{Fault}
use Rattle.plan_mean.specs.Slots.{with_slot}
use Rattle.ssa_mean.specs.Answers.{Answers}
use Rattle.ssa_mean.specs.State.{FrameState}

-- ---- what stays the same in a run: the plan, the types and names of its code, and what is true of the types

pub record World : Type 0 where
  pub plan : Plan
  pub naming : Naming
  pub answers : Answers

-- ---- calls that are made later. Go specification, "Defer statements" and "Go statements"

-- what is called: a function by its number, with the values of its free variables; a built-in function; a function
-- value that is nil
pub data Called : Type 0 where
  of_function : ℕ → List Val → Called
  of_built_in : BuiltinForm → Called
  of_nil : Called

-- a call whose operands are known; `chain` is how many invokes of wrappers led to it
pub record Later : Type 0 where
  pub called : Called
  pub arguments : List Val
  pub chain : ℕ

-- ---- frames, without their slots

pub record Frame : Type 0 where
  pub function : PlannedFunction
  pub block : ℕ
  -- the steps of the block, and the place of the next one
  pub steps : List Step
  pub step : ℕ
  pub deferred : Bool
  pub state : FrameState
  -- in the order in which they were put off
  pub defers : List Later
  -- the slot of the frame below that gets the results
  pub result : Option ℕ
  pub chain : ℕ

-- ---- goroutines

pub record Goroutine : Type 0 where
  -- the top one first
  pub frames : List Frame
  -- the slots of each frame
  pub slots : List (List (Option Val))
  -- how many frames of source functions there are
  pub sources : ℕ
  -- the call with which it begins
  pub begin : Option Later
  -- a fault that it meets as it goes on
  pub fault : Option Fault

-- ---- the whole

pub record Machine : Type 0 where
  -- by their numbers; what stands at the number of the one that runs is no goroutine
  pub others : List Goroutine
  -- the one that runs
  pub current : Goroutine
  -- how many functions goroutine 0 has called, one after another
  pub started : ℕ
  pub store : Stored
  -- the channels, who runs and who may, and the choices that are left
  pub sched : State
  -- the ticks that are left
  pub ticks : ℕ
  pub output : List ℕ

-- what a step leads to: a further state; the ending of the run, with its output; or nothing, where typed code never
-- comes
pub data Next : Type 0 where
  goes : Machine → Next
  ends : Ending → List ℕ → Next
  stuck : Next

abbrev pub where_there : {A : Type 0} → (A → Next) → Option A → Next
where_there next None = stuck
where_there next (Some it) = next it

-- ---- changes

abbrev pub with_current : Goroutine → Machine → Machine
with_current g m = record m { current = g }

abbrev pub with_frames : List Frame → Machine → Machine
with_frames frames m = record m { current = record (m.current) { frames = frames } }

abbrev pub with_slots : List (List (Option Val)) → Machine → Machine
with_slots slots m = record m { current = record (m.current) { slots = slots } }

-- a slot of the top frame gets a value
abbrev pub with_value : ℕ → Val → Machine → Machine
with_value slot it m = with_slots (with_slot slot it m.current.slots) m

-- a slot gets a value, where there is one of each
abbrev pub with_result : Option ℕ → Option Val → Machine → Machine
with_result (Some slot) (Some it) m = with_value slot it m
with_result _ _ m = m

-- behind its step, and at it again
abbrev pub advanced : Frame → Frame
advanced frame = record frame { step = suc frame.step }

abbrev pub back : Frame → Frame
back frame = record frame { step = pred frame.step }

abbrev pub change_top : (Frame → Frame) → List Frame → List Frame
change_top f [] = []
change_top f (top ∷ below) = f top ∷ below

-- the goroutine that stands at a number among the others changes its place with the one that runs
abbrev pub swapped : ℕ → Machine → Machine
swapped n m =
    option_map_or (λ g. record m { others = slice_set m.others n m.current; current = g }) (slice_get m.others n) m
