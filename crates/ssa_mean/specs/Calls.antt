-- Calls. Go specification, "Calls", "Method sets", "Defer statements", "Go statements" and "Return statements".
use Rattle.std.specs.Prelude.{ℕ, suc, ◌==◌, Bool, false, ◌&&◌, ◌||◌, List, [], ◌∷◌, ◌++◌, map, pos, Option}
use Rattle.std.specs.Prelude.{Some, None, nat_le, nat_lt, length, replicate, take, unsigned_abs, if◌then◌else◌, codes}
use Rattle.std.specs.Prelude.{option_map}
use Rattle.std.specs.Int.{int_rem_euclid}
use Rattle.std.specs.List.{find, filter}
use Rattle.std.specs.Option.{option_and_then, option_map_or}
use Rattle.std.specs.Str.{bytes_eq}
use Rattle.go_base.specs.declared.ending.Ending.TheVariants as ending
use Rattle.go_base.specs.declared.ids.FuncId.{FuncId}
use Rattle.go_base.specs.declared.ids.NameId.{NameId}
use Rattle.go_base.specs.declared.ids.TypeId.{TypeId}
use Rattle.go_sched.specs.Goroutines.{spawned}
use Rattle.go_sched.specs.declared.scheduling.Point.TheVariants as point
use Rattle.go_store.specs.Arrays.{array_of}
use Rattle.go_type.specs.Same.{same_id}
use Rattle.go_value.specs.Values.{Val, number, pointer, nil_function, nil_interface, closure, bound, dynamic}
use Rattle.go_value.specs.declared.faults.Fault.TheVariants as fault
use Rattle.go_value.specs.declared.values.BoundTarget.TheVariants as target
use Rattle.ssa_ir.specs.declared.code.Code.{Code}
use Rattle.ssa_ir.specs.declared.code.Function.{Function}
use Rattle.ssa_ir.specs.declared.code.FunctionKind.{FunctionKind}
use Rattle.ssa_ir.specs.declared.code.FunctionKind.TheVariants as kind
use Rattle.ssa_ir.specs.declared.code.MethodLine.{MethodLine}
use Rattle.ssa_ir.specs.declared.ops.Call.{Call}
use Rattle.ssa_ir.specs.declared.ops.Call.TheVariants as call
use Rattle.ssa_mean.specs.BuiltIns.{built_in_of}
use Rattle.ssa_mean.specs.Comes.{Comes, faults, nowhere, where_some, then_to, of_option}
use Rattle.ssa_mean.specs.Operands.{function_at, value_of, values_of}
use Rattle.ssa_mean.specs.State.{Callee, of_function, of_built_in, of_nil, Later, Frame, running, Goroutine, Machine}
use Rattle.ssa_mean.specs.State.{Next}
use Rattle.ssa_mean.specs.State.{goes, ends, stuck, where_there, current, with_frames, with_result}
use Rattle.ssa_mean.specs.Unwinding.{is_source, is_wrapper, is_wrapper_kind, at_block, spends, switches}

-- ---- how many embedded interfaces a selection has passed

-- wrappers of promoted methods, by their names
abbrev pub is_promotion : Function → Bool
is_promotion function = is_wrapper_kind function.kind && bytes_eq (take 8 function.name) (codes "promote ")

-- a wrapper passes on how many there were; any other function begins anew
abbrev pub passed_on : Function → Frame → ℕ
passed_on function frame = if is_wrapper_kind function.kind then frame.chain else 0

-- an invoke by a wrapper of a promoted method is one more
abbrev pub passed_by_invoke : Function → Frame → ℕ
passed_by_invoke function frame = if is_promotion function then suc frame.chain else passed_on function frame

-- the most that a selection passes
abbrev pub most_passed : ℕ
most_passed = 100000

-- ---- what is called, with its arguments

abbrev pub later : Callee → ℕ → List Val → Later
later callee chain arguments = record { callee = callee; arguments = arguments; chain = chain }

-- a function value: nil, a closure, or a method with its receiver
abbrev pub called_value : Val → Option Callee
called_value nil_function = Some of_nil
called_value (closure id captured) = Some (of_function id (map pointer captured))
called_value (bound (target.Function id) receiver) = Some (of_function id (receiver ∷ []))
called_value _ = None

abbrev pub is_method_line : TypeId → NameId → ℕ → MethodLine → Bool
is_method_line of name package_number line =
    same_id of line.receiver && ((line.name.number == name.number) && (line.«package» == package_number))

-- the function that a method of a type is
abbrev pub method_of : Code → TypeId → NameId → ℕ → Option FuncId
method_of code of name package_number =
    option_map (λ line. line.function) (find (is_method_line of name package_number) code.methods)

-- a method of an interface value: the value in it is the receiver. A nil interface has no methods
abbrev pub invoked : Code → ℕ → NameId → ℕ → List Val → Val → Comes Later
invoked code chain name package_number arguments (dynamic of it) =
    then_to (λ id. later (of_function id []) chain (it ∷ arguments))
    (of_option (method_of code of name package_number))
invoked code chain name package_number arguments nil_interface = faults fault.NilPointer
invoked code chain name package_number arguments _ = nowhere

-- a call with its operands as they are now
abbrev pub readied : Code → Function → Frame → Call → Comes Later
readied code function frame (call.Static id operands) =
    then_to (later (of_function id []) (passed_on function frame)) (of_option (values_of code frame operands))
readied code function frame (call.Dynamic callee operands) =
    where_some (λ called. then_to (later called 0) (of_option (values_of code frame operands)))
    (option_and_then called_value (value_of code frame callee))
readied code function frame (call.Invoke receiver name package_number operands) =
    where_some (λ arguments. where_some (invoked code (passed_by_invoke function frame) name package_number arguments)
    (value_of code frame receiver)) (values_of code frame operands)
readied code function frame (call.Builtin builtin operands) =
    where_some (λ called. then_to (later (of_built_in called) 0) (of_option (values_of code frame operands)))
    (built_in_of code function builtin operands)

-- ---- the entry of a function

-- a wrapper that was started as a deferred call passes that on
abbrev pub passes_deferral : Code → List Frame → Bool
passes_deferral code [] = false
passes_deferral code (top ∷ below) = top.deferred && is_wrapper code top

pub record Entry : Type 0 where
  pub function : FuncId
  pub free : List Val
  pub arguments : List Val
  pub deferred : Bool
  pub result : Option ℕ
  pub chain : ℕ

abbrev pub entered : Function → Entry → Frame
entered function entry =
    at_block function 0
    (record {
      function = entry.function;
      block = 0;
      place = 0;
      parameters = entry.arguments;
      free = entry.free;
      registers = replicate (length function.registers) None;
      defers = [];
      state = running;
      deferred = entry.deferred;
      result = entry.result;
      chain = entry.chain;
    })

-- as many arguments as parameters, and a value for each free variable
abbrev pub fits_entry : Function → Entry → Bool
fits_entry function entry =
    (length entry.arguments == length function.params) && (length entry.free == length function.free)

-- a frame on top
abbrev pub pushed : Function → Entry → Machine → Next
pushed function entry m =
    if fits_entry function entry
    then where_there (λ g. goes (with_frames g (entered function entry ∷ g.frames) m)) (current m)
    else stuck

-- a goroutine holds at most 100,000 frames of source functions
abbrev pub most_frames : ℕ
most_frames = 100000

abbrev pub is_full : Code → Goroutine → Bool
is_full code g = nat_le most_frames (length (filter (is_source code) g.frames))

-- the limit is asked first, and then a tick is spent
abbrev pub enters_source : Code → Machine → Goroutine → Function → Entry → Next
enters_source code m g function entry =
    if is_full code g then ends ending.StackOverflow m.output else spends m (pushed function entry)

-- `os.Exit`: its argument modulo 256
abbrev pub exits : Machine → List Val → Next
exits m (number status ∷ []) = ends (ending.Exited (unsigned_abs (int_rem_euclid status (pos 256)))) m.output
exits m _ = stuck

-- `os.Exit` and `runtime.Gosched` have no bodies
abbrev pub enters_external : Code → Machine → Function → List Val → Next
enters_external code m function arguments =
    if bytes_eq function.name (codes "os.Exit") then exits m arguments else switches code point.Yield m

abbrev pub enters_kind : Code → Machine → Goroutine → Function → FunctionKind → Entry → Next
enters_kind code m g function kind.Source entry = enters_source code m g function entry
enters_kind code m g function kind.External entry = enters_external code m function entry.arguments
enters_kind code m g function _ entry = pushed function entry m

abbrev pub enters : Code → Machine → Entry → Next
enters code m entry =
    if nat_lt most_passed entry.chain then ends ending.StackOverflow m.output
    else where_there (λ g. where_there (λ function. enters_kind code m g function function.kind entry)
    (function_at code entry.function)) (current m)

abbrev pub entry_of : Code → Machine → FuncId → List Val → Later → Bool → Option ℕ → Entry
entry_of code m id free it deferred result =
    record {
      function = id;
      free = free;
      arguments = it.arguments;
      deferred = deferred || option_map_or (λ g. passes_deferral code g.frames) (current m) false;
      result = result;
      chain = it.chain;
    }

-- ---- results

-- none, one, or several as a tuple
abbrev pub results_of : List Val → Option Val
results_of [] = None
results_of (it ∷ []) = Some it
results_of items = Some (array_of items)

-- the frame below gets the results
abbrev pub given : Frame → List Val → List Frame → List Frame
given top results [] = []
given top results (caller ∷ below) = with_result top.result (results_of results) caller ∷ below

-- ---- goroutines

-- a new goroutine, which begins with a call
abbrev pub with_new : Later → Machine → Machine
with_new it m =
    record m {
      goroutines = m.goroutines ++ record { frames = []; begin = Some it; fault = None } ∷ [];
      sched = spawned m.sched;
    }
