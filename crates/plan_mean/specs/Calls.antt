-- Calls. Go specification, "Calls", "Method sets", "Defer statements", "Go statements" and "Return statements".
use Rattle.std.specs.Prelude.{ℕ, suc, ◌==◌, Bool, false, ◌||◌, ◌&&◌, List, [], ◌∷◌, ◌++◌, map, pos, Option, Some}
use Rattle.std.specs.Prelude.{None, min, nat_le, nat_lt, length, unsigned_abs, if◌then◌else◌, slice_get}
use Rattle.std.specs.Int.{int_rem_euclid}
use Rattle.std.specs.List.{find}
use Rattle.std.specs.Option.{option_and_then, option_map}
use Rattle.code_plan.specs.declared.steps.Arg.{Arg}
use Rattle.code_plan.specs.declared.steps.Callee.{Callee}
use Rattle.code_plan.specs.declared.steps.Callee.TheVariants as callee
use Rattle.code_plan.specs.declared.steps.MethodName.{MethodName}
use Rattle.code_plan.specs.declared.steps.MethodOf.{MethodOf}
use Rattle.code_plan.specs.declared.steps.PlannedFunction.{PlannedFunction}
use Rattle.code_plan.specs.declared.steps.Role.{Role}
use Rattle.code_plan.specs.declared.steps.Role.TheVariants as role
use Rattle.code_plan.specs.declared.steps.Step.{Step}
use Rattle.go_base.specs.declared.ending.Ending.TheVariants as ending
use Rattle.go_sched.specs.Goroutines.{spawned}
use Rattle.go_sched.specs.declared.scheduling.Point.TheVariants as point
use Rattle.go_type.specs.Same.{same_id}
use Rattle.go_value.specs.Values.{Val, number, pointer, nil_function, closure, bound, dynamic}
use Rattle.go_value.specs.declared.faults.Fault.TheVariants as fault
use Rattle.go_value.specs.declared.values.BoundTarget.TheVariants as target
use Rattle.plan_mean.specs.Operands.{look, look_at_all}
use Rattle.plan_mean.specs.Slots.{with_frame, with_slots_from}
use Rattle.plan_mean.specs.State.{World, Called, of_function, of_built_in, of_nil, Later, Frame, Goroutine, Machine}
use Rattle.plan_mean.specs.State.{Next, goes, ends, stuck, where_there, with_current, with_result}
use Rattle.plan_mean.specs.Unwinding.{is_source, is_wrapper_frame, spends, switches, popped}
use Rattle.ssa_mean.specs.Calls.{most_frames, most_passed, results_of}
use Rattle.ssa_mean.specs.Comes.{Comes, to, faults, of_option, then_to, where_some}
use Rattle.ssa_mean.specs.State.{running}

-- ---- what is called, with its arguments

-- how many invokes of wrappers led to a call: a wrapper on top passes on what it has
abbrev pub passed_on : List Frame → ℕ
passed_on [] = 0
passed_on (top ∷ below) = if is_wrapper_frame top then top.chain else 0

-- an invoke by the wrapper of a promoted method is one more
abbrev pub passed_by_invoke : List Frame → ℕ
passed_by_invoke [] = 0
passed_by_invoke (top ∷ below) =
    if top.function.promotes then suc (min top.chain most_passed) else passed_on (top ∷ below)

abbrev pub later : Called → ℕ → List Val → Later
later called chain arguments = record { called = called; arguments = arguments; chain = chain }

-- a function value: nil, a closure, or a method with its receiver
abbrev pub called_value : Val → Option Called
called_value nil_function = Some of_nil
called_value (closure id captured) = Some (of_function id.number (map pointer captured))
called_value (bound (target.Function id) receiver) = Some (of_function id.number (receiver ∷ []))
called_value _ = None

abbrev pub is_method : MethodOf → MethodOf → Bool
is_method it other =
    same_id it.receiver other.receiver
    && ((it.method.name.number == other.method.name.number) && (it.method.«package» == other.method.«package»))

-- the function that a method of a type is
abbrev pub method_at : World → MethodOf → Option ℕ
method_at w it = option_map (λ line. line.1) (find (λ line. is_method it line.0) w.plan.methods.entries)

-- a method of an interface value: the value in it is the receiver. A nil interface has no methods
abbrev pub invoked : World → ℕ → MethodName → List Val → Val → Comes Later
invoked w chain method arguments (dynamic of it) =
    then_to (λ n. later (of_function n []) chain (it ∷ arguments))
    (of_option (method_at w (record { receiver = of; method = method })))
invoked w chain method arguments _ = faults fault.NilPointer

abbrev pub with_arguments : Machine → List Arg → (List Val → Comes Later) → Comes Later
with_arguments m args next = where_some next (look_at_all m args)

-- a call with its operands as they are now
abbrev pub readied : World → Machine → Callee → List Arg → Comes Later
readied w m (callee.Function n) args =
    with_arguments m args (λ it. to (later (of_function n []) (passed_on m.current.frames) it))
readied w m (callee.Value value) args =
    with_arguments m args (λ it. where_some (λ called. to (later called 0 it))
    (option_and_then called_value (look m value)))
readied w m (callee.Method receiver method) args =
    where_some (λ it. with_arguments m args (λ arguments.
    invoked w (passed_by_invoke m.current.frames) method arguments it)) (look m receiver)
readied w m (callee.Builtin form) args = with_arguments m args (λ it. to (later (of_built_in form) 0 it))

-- ---- the entry of a function

-- a wrapper that was started as a deferred call passes that on
abbrev pub passes_deferral : List Frame → Bool
passes_deferral [] = false
passes_deferral (top ∷ below) = top.deferred && is_wrapper_frame top

pub record Entry : Type 0 where
  pub function : ℕ
  pub free : List Val
  pub arguments : List Val
  pub deferred : Bool
  pub result : Option ℕ
  pub chain : ℕ

-- the slots of the new frame: its arguments, then the values of its free variables
abbrev pub entered_slots : PlannedFunction → Entry → List (List (Option Val)) → List (List (Option Val))
entered_slots function entry slots =
    with_slots_from function.params entry.free (with_slots_from 0 entry.arguments (with_frame function.slots slots))

abbrev pub entered_sources : PlannedFunction → ℕ → ℕ
entered_sources function sources = if is_source function.role then suc sources else sources

abbrev pub new_frame : PlannedFunction → Entry → List Step → Frame
new_frame function entry steps =
    record {
      function = function;
      block = 0;
      steps = steps;
      step = 0;
      deferred = entry.deferred;
      state = running;
      defers = [];
      result = entry.result;
      chain = entry.chain;
    }

abbrev pub with_entry : PlannedFunction → Entry → Frame → Goroutine → Goroutine
with_entry function entry frame g =
    record g {
      frames = frame ∷ g.frames;
      slots = entered_slots function entry g.slots;
      sources = entered_sources function g.sources;
    }

-- a frame on top, where there are as many arguments as parameters
abbrev pub pushed : PlannedFunction → Entry → Machine → Next
pushed function entry m =
    if length entry.arguments == function.params
    then where_there (λ block. goes (with_current (with_entry function entry
    (new_frame function entry block.steps.items) m.current) m)) (slice_get function.blocks.items 0)
    else stuck

-- `os.Exit`: its argument modulo 256
abbrev pub exits : Machine → List Val → Next
exits m (number status ∷ others) =
    ends (ending.Exited (unsigned_abs (int_rem_euclid status (pos 256)))) m.output
exits m _ = stuck

-- the limit is asked first, and then a tick is spent
abbrev pub enters_source : PlannedFunction → Entry → Machine → Next
enters_source function entry m =
    if nat_le most_frames m.current.sources then ends ending.StackOverflow m.output
    else spends m (pushed function entry)

abbrev pub enters_role : World → PlannedFunction → Role → Entry → Machine → Next
enters_role w function role.Source entry m = enters_source function entry m
enters_role w function role.Exit entry m = exits m entry.arguments
enters_role w function role.Gosched entry m = switches w point.Yield m
enters_role w function _ entry m = pushed function entry m

abbrev pub enters : World → Entry → Machine → Next
enters w entry m =
    where_there (λ function.
    if nat_lt most_passed entry.chain then ends ending.StackOverflow m.output
    else enters_role w function function.role entry m) (slice_get w.plan.functions.items entry.function)

abbrev pub entry_of : ℕ → List Val → Later → Bool → Option ℕ → Machine → Entry
entry_of n free it deferred result m =
    record {
      function = n;
      free = free;
      arguments = it.arguments;
      deferred = deferred || passes_deferral m.current.frames;
      result = result;
      chain = it.chain;
    }

-- ---- results

-- the frame below gets the results
abbrev pub returned : List Val → List Frame → Machine → Next
returned results [] m = stuck
returned results (top ∷ below) m =
    goes (with_result top.result (results_of results) (with_current (popped m.current) m))

-- ---- goroutines

-- one that is to make a call
abbrev pub new_goroutine : Option Later → Goroutine
new_goroutine it = record { frames = []; slots = []; sources = 0; begin = it; fault = None }

abbrev pub with_new : Later → Machine → Machine
with_new it m =
    record m { others = m.others ++ new_goroutine (Some it) ∷ []; sched = spawned m.sched }
