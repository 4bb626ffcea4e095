-- What code needs besides being sane and typed, so that each of its instructions has a meaning: zero values where they
-- are asked for, the methods of what is put into interfaces, and functions without bodies of the right form.
use Rattle.std.specs.Prelude.{◌≡◌, ℕ, ◌==◌, Bool, true, false, not, ◌&&◌, ◌||◌, List, [], ◌∷◌, ◌++◌, length, codes}
use Rattle.std.specs.Prelude.{Option, Some, None, is_some, slice_get}
use Rattle.std.specs.List.{list_all}
use Rattle.std.specs.Option.{option_map_or}
use Rattle.std.specs.Str.{bytes_eq}
use Rattle.go_base.specs.declared.ids.TypeId.{TypeId}
use Rattle.go_type.specs.Assignable.{underlying_term_of, Implements}
use Rattle.go_type.specs.Kinds.{kind_of}
use Rattle.go_type.specs.Same.{same_ids}
use Rattle.go_type.specs.Selector.{is_pointer}
use Rattle.go_type.specs.Table.{Table, term_at, definition_at}
use Rattle.go_type.specs.declared.operators.Builtin.{Builtin}
use Rattle.go_type.specs.declared.operators.Builtin.TheVariants as builtin
use Rattle.go_type.specs.declared.term.Basic.TheVariants as basic
use Rattle.go_type.specs.declared.term.MethodType.{MethodType}
use Rattle.go_type.specs.declared.term.TypeTerm.{TypeTerm}
use Rattle.go_type.specs.declared.term.TypeTerm.TheVariants.{Basic as Plain, Slice, Map, Chan, Func, Interface}
use Rattle.go_value.specs.Interfaces.{is_interface_type}
use Rattle.ssa_ir.specs.Blocks.{instrs_at}
use Rattle.ssa_ir.specs.declared.code.Code.{Code}
use Rattle.ssa_ir.specs.declared.code.Function.{Function}
use Rattle.ssa_ir.specs.declared.code.FunctionKind.{FunctionKind}
use Rattle.ssa_ir.specs.declared.code.FunctionKind.TheVariants as kind
use Rattle.ssa_ir.specs.declared.operands.Operand.{Operand}
use Rattle.ssa_ir.specs.declared.operands.Operand.TheVariants as operand
use Rattle.ssa_ir.specs.declared.ops.Call.{Call}
use Rattle.ssa_ir.specs.declared.ops.Call.TheVariants as call
use Rattle.ssa_ir.specs.declared.ops.Instr.{Instr}
use Rattle.ssa_ir.specs.declared.ops.Op.{Op}
use Rattle.ssa_ir.specs.declared.ops.Op.TheVariants as op
use Rattle.ssa_ir.specs.declared.ops.PhiEdge.{PhiEdge}
use Rattle.ssa_ir.specs.declared.ops.SelectCase.{SelectCase}
use Rattle.ssa_ir.specs.declared.ops.SelectCase.TheVariants as case
use Rattle.ssa_mean.specs.BuiltIns.{clear_of, first_term}
use Rattle.ssa_mean.specs.Calls.{method_of}
use Rattle.ssa_mean.specs.Faults.{error_string}
use Rattle.ssa_mean.specs.Operands.{function_at, constant_value, type_of, under, term_of, element_in, element_type}
use Rattle.ssa_mean.specs.Ranges.{ranged}
use Rattle.ssa_mean.specs.Zeros.{zero_where}

-- ---- operands: constants have values

abbrev pub operands_if : Option Operand → List Operand
operands_if None = []
operands_if (Some it) = it ∷ []

abbrev pub operands_of_call : Call → List Operand
operands_of_call (call.Static id arguments) = arguments
operands_of_call (call.Dynamic callee arguments) = callee ∷ arguments
operands_of_call (call.Invoke receiver name package_number arguments) = receiver ∷ arguments
operands_of_call (call.Builtin called arguments) = arguments

abbrev pub operands_of_cases : List SelectCase → List Operand
operands_of_cases [] = []
operands_of_cases (case.Send channel it ∷ cases) = channel ∷ it ∷ operands_of_cases cases
operands_of_cases (case.Receive channel ∷ cases) = channel ∷ operands_of_cases cases

abbrev pub operands_of_edges : List PhiEdge → List Operand
operands_of_edges [] = []
operands_of_edges (edge ∷ edges) = edge.value ∷ operands_of_edges edges

-- all operands of an instruction
abbrev pub operands_of : Op → List Operand
operands_of (op.New of) = []
operands_of (op.Phi edges) = operands_of_edges edges
operands_of (op.Binary o left right) = left ∷ right ∷ []
operands_of (op.Unary o it) = it ∷ []
operands_of (op.Load at) = at ∷ []
operands_of (op.Store at it) = at ∷ it ∷ []
operands_of (op.Field it field) = it ∷ []
operands_of (op.FieldAddress it field) = it ∷ []
operands_of (op.Index it index) = it ∷ index ∷ []
operands_of (op.IndexAddress it index) = it ∷ index ∷ []
operands_of (op.Lookup it key comma_ok) = it ∷ key ∷ []
operands_of (op.Update it key new) = it ∷ key ∷ new ∷ []
operands_of (op.Slice it low high max) = it ∷ (operands_if low ++ (operands_if high ++ operands_if max))
operands_of (op.Convert of it) = it ∷ []
operands_of (op.ChangeType of it) = it ∷ []
operands_of (op.MakeInterface of it) = it ∷ []
operands_of (op.ChangeInterface of it) = it ∷ []
operands_of (op.MakeClosure id captured) = captured
operands_of (op.MakeMap of) = []
operands_of (op.MakeChan of size) = size ∷ []
operands_of (op.MakeSlice of len cap) = len ∷ cap ∷ []
operands_of (op.TypeAssert it of comma_ok) = it ∷ []
operands_of (op.Call called) = operands_of_call called
operands_of (op.Go called) = operands_of_call called
operands_of (op.Defer called) = operands_of_call called
operands_of op.RunDefers = []
operands_of (op.Send channel it) = channel ∷ it ∷ []
operands_of (op.Receive channel comma_ok) = channel ∷ []
operands_of (op.Select blocking cases) = operands_of_cases cases
operands_of (op.Range it) = it ∷ []
operands_of (op.Next it) = it ∷ []
operands_of (op.Extract it part) = it ∷ []
operands_of op.Tick = []
operands_of (op.Jump block) = []
operands_of (op.If test then_to else_to) = test ∷ []
operands_of (op.Return results) = results
operands_of (op.Panic it) = it ∷ []

-- no constant is the zero value of a type that has none
abbrev pub has_meaning : Code → Operand → Bool
has_meaning c (operand.Constant it of) = is_some (constant_value c it of)
has_meaning c _ = true

-- ---- instructions

abbrev pub has_zero : Code → Option TypeId → Bool
has_zero c of = is_some (zero_where c of)

abbrev pub has_edges : List PhiEdge → Bool
has_edges [] = false
has_edges (edge ∷ edges) = true

abbrev pub receives_zero : Code → Function → SelectCase → Bool
receives_zero c f (case.Send channel it) = true
receives_zero c f (case.Receive channel) = has_zero c (element_type c f channel)

-- what is ranged over: a string, or a map whose keys and elements have zero values
abbrev pub has_turns : Code → Option TypeTerm → Bool
has_turns c (Some (Map key elem)) = has_zero c (Some key) && has_zero c (Some elem)
has_turns c _ = true

-- a method binds its receiver; any other closure captures pointers
abbrev pub captures : Table → FunctionKind → List TypeId → Bool
captures types kind.Wrapper free = length free == 1
captures types _ free = list_all (λ of. is_pointer (underlying_term_of types of)) free

-- lengths of arrays are constants
abbrev pub has_length : Option TypeTerm → Bool
has_length (Some (Plain basic.Text)) = true
has_length (Some (Slice elem)) = true
has_length (Some (Map key elem)) = true
has_length (Some (Chan dir elem)) = true
has_length _ = false

abbrev pub runs_builtin : Code → Function → Builtin → List Operand → Bool
runs_builtin c f builtin.Clear arguments = is_some (clear_of c (first_term c f arguments))
runs_builtin c f builtin.Len arguments = has_length (first_term c f arguments)
runs_builtin c f builtin.Cap arguments = has_length (first_term c f arguments)
runs_builtin c f _ arguments = true

abbrev pub runs_call : Code → Function → Call → Bool
runs_call c f (call.Builtin called arguments) = runs_builtin c f called arguments
runs_call c f _ = true

abbrev pub runs_op : Code → Function → Op → Bool
runs_op c f (op.New of) = has_zero c (Some of)
runs_op c f (op.Phi edges) = has_edges edges
runs_op c f (op.Lookup it key comma_ok) = has_zero c (element_type c f it)
runs_op c f (op.MakeInterface of it) = is_some (type_of c f it)
runs_op c f (op.MakeClosure id captured) =
    option_map_or (λ function. captures c.types function.kind function.free) (function_at c id) false
runs_op c f (op.MakeSlice of len cap) = has_zero c (element_in (under c (Some of)))
runs_op c f (op.TypeAssert it of comma_ok) = has_zero c (Some of)
runs_op c f (op.Call called) = runs_call c f called
runs_op c f (op.Go called) = runs_call c f called
runs_op c f (op.Defer called) = runs_call c f called
runs_op c f (op.Receive channel comma_ok) = has_zero c (element_type c f channel)
runs_op c f (op.Select blocking cases) = list_all (receives_zero c f) cases
runs_op c f (op.Next it) = has_turns c (ranged c (term_of c f it))
runs_op c f _ = true

-- an instruction has a meaning wherever it is sane and typed
abbrev pub runs : Code → Function → Op → Bool
runs c f it = runs_op c f it && list_all (has_meaning c) (operands_of it)

-- ---- functions without bodies give no results, and `os.Exit` takes an integer

abbrev pub takes_status : Table → List TypeId → Bool
takes_status types (of ∷ []) = is_some (kind_of types of)
takes_status types _ = false

abbrev pub fits_external : Table → Function → FunctionKind → Bool
fits_external types f kind.External =
    (length f.results == 0) && (not (bytes_eq f.name (codes "os.Exit")) || takes_status types f.params)
fits_external types f _ = true

-- ---- what interfaces hold, and its methods

-- the code puts values of a type into interfaces: an instruction does, or a run-time fault
pub data IsBoxed (c : Code) : TypeId → Type 0 where
  by_instr : (f : Function) (number block place : ℕ) (instr : Instr) (to of : TypeId) (it : Operand)
      → slice_get c.functions number ≡ Some f → slice_get (instrs_at f block) place ≡ Some instr
      → instr.op ≡ op.MakeInterface to it → type_of c f it ≡ Some of → is_interface_type c.types of ≡ false
      → IsBoxed c of
  by_fault : (of : TypeId) → error_string c ≡ Some of → IsBoxed c of

-- a function takes a receiver of a type, and has a signature
abbrev pub is_method : TypeId → Option TypeTerm → Option Function → Bool
is_method of (Some (Func signature)) (Some f) =
    (length f.free == 0) && (same_ids f.params (of ∷ signature.params) && same_ids f.results signature.results)
is_method of _ _ = false

abbrev pub has_method : Code → TypeId → MethodType → Bool
has_method c of method =
    option_map_or (λ id. is_method of (term_at c.types method.of) (function_at c id))
    (method_of c of method.name method.«package») false

-- of what is put into interfaces, the code has every method of every interface that it implements
abbrev pub HasMethods : Code → Type 0
HasMethods c =
    (of interface : TypeId) (methods : List MethodType) → IsBoxed c of → Implements c.types of interface
    → underlying_term_of c.types interface ≡ Some (Interface methods) → list_all (has_method c of) methods ≡ true

-- ---- the whole

pub record IsRunnable (c : Code) : Type 0 where
  -- each instruction has a meaning
  pub instrs : (number block place : ℕ) (f : Function) (instr : Instr) → slice_get c.functions number ≡ Some f
      → slice_get (instrs_at f block) place ≡ Some instr → runs c f instr.op ≡ true
  pub externals : (number : ℕ) (f : Function) → slice_get c.functions number ≡ Some f
      → fits_external c.types f f.kind ≡ true
  -- `errorString` of `runtime` holds strings
  pub errors : (of : TypeId) → error_string c ≡ Some of
      → underlying_term_of c.types of ≡ Some (Plain basic.Text)
  -- a declared interface has no methods but those of its type
  pub interfaces : (of : TypeId) → is_interface_type c.types of ≡ true → (definition_at c.types of).methods ≡ []
  pub methods : HasMethods c
