-- Calls on their way: what is called, with which arguments, and what its entry comes to.
use Rattle.std.specs.Prelude.{◌≡◌, ◌<◌, ℕ, List, [], ◌∷◌, Bool, true, false, Option, Some, None, Result, Ok, Err, map}
use Rattle.std.specs.Prelude.{slice_get}
use Rattle.code_plan.specs.declared.steps.PlannedBlock.{PlannedBlock}
use Rattle.code_plan.specs.declared.steps.PlannedFunction.{PlannedFunction}
use Rattle.go_value.specs.Values.{Val, Field, value_of}
use Rattle.go_value.specs.declared.faults.Fault.TheVariants as fault
use Rattle.go_value.specs.declared.values.Value.{Value}
use Rattle.interp_calls.specs.declared.calling.Manner.{Manner}
use Rattle.interp_state.specs.Machines.{called_of, free_of, goroutine_of, later_of, machine_of}
use Rattle.interp_state.specs.Turns.{IsIn}
use Rattle.interp_state.specs.declared.frames.Bound.{Bound}
use Rattle.interp_state.specs.declared.frames.Later as pending
use Rattle.interp_state.specs.declared.frames.Ready.{Ready}
use Rattle.interp_state.specs.declared.machine.Machine.{Machine}
use Rattle.interp_state.specs.declared.machine.Met.{Met}
use Rattle.interp_state.specs.declared.machine.Met.TheVariants as met
use Rattle.plan_mean.specs.Calls.{Entry, enters, entered_sources, entry_of, later, new_frame, pushed}
use Rattle.plan_mean.specs.State as meant
use Rattle.plan_mean.specs.State.{World, Next, Called, of_function, of_built_in, of_nil, Later, goes, stuck}
use Rattle.plan_mean.specs.State.{with_current}
use Rattle.plan_mean.specs.State.{with_result}
use Rattle.plan_mean.specs.Step.{alone, unwinds}
use Rattle.plan_mean.specs.Unwinding.{is_source, is_wrapper_frame, meets, popped, unwound}
use Rattle.ssa_mean.specs.Comes.{Comes, to, faults}

-- ---- what is called

-- the values that are on their way
abbrev pub on_way : Machine → List Val
on_way m = map value_of m.waiting.items

-- what a function value calls: a function with what is bound to it, or nil
abbrev pub called_as : Option (ℕ × Bound) → Called
called_as None = of_nil
called_as (Some it) = of_function it.0 (free_of it.1)

-- a call that is readied, with its arguments on their way; or the fault that it meets
abbrev pub IsReadied : Result (Ready × ℕ) Met → Machine → Comes Later → Type 0
IsReadied (Ok it) new comes = comes ≡ to (later (called_of it.0) it.1 (on_way new))
IsReadied (Err (met.Fault it)) new comes = comes ≡ faults it
IsReadied (Err met.Memory) new comes = Unit {0}

abbrev pub IsLater : Result pending.Later Met → Comes Later → Type 0
IsLater (Ok it) comes = comes ≡ to (later_of it)
IsLater (Err (met.Fault it)) comes = comes ≡ faults it
IsLater (Err met.Memory) comes = Unit {0}

-- the function that a method is, and the receiver that it has with arguments; or the fault that it meets
abbrev pub IsMethod : Result (ℕ × Value) Met → ℕ → List Val → Comes Later → Type 0
IsMethod (Ok it) chain arguments comes =
    comes ≡ to (later (of_function it.0 []) chain (value_of it.1 ∷ arguments))
IsMethod (Err (met.Fault it)) chain arguments comes = comes ≡ faults it
IsMethod (Err met.Memory) chain arguments comes = Unit {0}

-- what a call of a function comes to; a built-in function is called alone
abbrev pub goes_to_call : World → meant.Machine → Option ℕ → Later → Bool → Called → Next
goes_to_call w m slot it deferred (of_function n free) = enters w (entry_of n free it deferred slot m) m
goes_to_call w m slot it deferred (of_built_in called) = alone w m called it.arguments
goes_to_call w m slot it deferred of_nil = meets w fault.NilPointer m

-- ---- the entry of a function

abbrev pub entry_with : ℕ → List Val → List Val → Manner → Entry
entry_with n free arguments manner =
    record {
      function = n;
      free = free;
      arguments = arguments;
      deferred = manner.deferred;
      result = manner.to;
      chain = manner.chain;
    }

-- one more frame of the function is counted
abbrev pub HasRoom : PlannedFunction → Machine → Type 0
HasRoom function m = is_source function.role ≡ true → m.current.sources < 4294967295

-- a function is to have a frame, and nothing else is left of its entry
pub record IsAdmitted (function : PlannedFunction) (entry : Entry) (old new : Machine)
    (next : World → Next) : Type 0 where
  pub leads : (w : World) → IsIn w old → next w ≡ pushed function entry (machine_of new)
  pub world : (w : World) → IsIn w old → IsIn w new
  pub room : HasRoom function new
  pub waiting : new.waiting ≡ old.waiting

-- a frame of a function stands on top; its slots were there already
pub record IsFramed (function : PlannedFunction) (manner : Manner) (old new : Machine) : Type 0 where
  pub block : PlannedBlock
  pub first : slice_get function.blocks.items 0 ≡ Some block
  pub current :
      goroutine_of new.current ≡ record (goroutine_of old.current) {
        frames = new_frame function (entry_with 0 [] [] manner) block.steps.items ∷ (goroutine_of old.current).frames;
        sources = entered_sources function (goroutine_of old.current).sources;
      }

-- ---- results, and frames that go

-- a part of a tuple
abbrev pub plain : Val → Field
plain it = record { value = it; blank = false }

-- the frame below the top one gets what comes back, where there is something
abbrev pub gives_back : Option Val → List meant.Frame → meant.Machine → Next
gives_back it [] m = stuck
gives_back it (top ∷ below) m = goes (with_result top.result it (with_current (popped m.current) m))

-- a wrapper stands on top
abbrev pub has_wrapper : List meant.Frame → Bool
has_wrapper [] = false
has_wrapper (top ∷ below) = is_wrapper_frame top

-- a frame that returns or panics goes on
abbrev pub goes_back : World → meant.Machine → List meant.Frame → Next
goes_back w m [] = stuck
goes_back w m (top ∷ below) = unwinds w m top below top.defers

abbrev pub goes_on : World → meant.Machine → List meant.Frame → Next
goes_on w m [] = stuck
goes_on w m (top ∷ below) = unwound w m top below top.state
