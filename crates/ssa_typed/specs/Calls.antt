-- Which types calls need.
use Rattle.std.specs.Prelude.{ℕ, ◌==◌, Bool, true, false, ◌&&◌, ◌||◌, List, [], ◌∷◌, if◌then◌else◌, Option, Some, None}
use Rattle.std.specs.Prelude.{is_some}
use Rattle.std.specs.Cmp.Lexicographic.{pointwise}
use Rattle.std.specs.List.{list_all}
use Rattle.go_base.specs.declared.ids.NameId.{NameId}
use Rattle.go_base.specs.declared.ids.TypeId.{TypeId}
use Rattle.go_type.specs.Assignable.{underlying_term_of}
use Rattle.go_type.specs.Kinds.{kind_of}
use Rattle.go_type.specs.Same.{same_id, same_ids}
use Rattle.go_type.specs.Table.{Table, term_at, basic_id}
use Rattle.go_type.specs.declared.operators.Builtin.{Builtin}
use Rattle.go_type.specs.declared.operators.Builtin.TheVariants as builtin
use Rattle.go_type.specs.declared.term.Basic.TheVariants as basic
use Rattle.go_type.specs.declared.term.MethodType.{MethodType}
use Rattle.go_type.specs.declared.term.TypeTerm.{TypeTerm}
use Rattle.go_type.specs.declared.term.TypeTerm.TheVariants.{Basic as Plain, Slice, Array, Map, Chan, Func, Interface}
use Rattle.ssa_ir.specs.declared.code.Code.{Code}
use Rattle.ssa_ir.specs.declared.code.Function.{Function}
use Rattle.ssa_ir.specs.declared.operands.Operand.{Operand}
use Rattle.ssa_ir.specs.declared.ops.Call.{Call}
use Rattle.ssa_ir.specs.declared.ops.Call.TheVariants as call
use Rattle.ssa_typed.specs.Operands.{function_at, is_value, known, shape, held_type, is_operand, is_any_operand}
use Rattle.ssa_typed.specs.Operands.{pointee}
use Rattle.type_shapes.specs.Shapes.{is_text, is_truth, is_any, is_byte, parts_of, may_send}
use Rattle.ssa_typed.specs.declared.known.Known.{Known}
use Rattle.ssa_typed.specs.declared.known.Known.TheVariants as known_as

-- ---- results

abbrev pub are_parts : List TypeId → Option (List TypeId) → Bool
are_parts results None = false
are_parts results (Some parts) = same_ids parts results

-- a register is given for results: none, one of the type of the one, or one of the tuple of several
abbrev pub gives_list : Table → List TypeId → Option TypeId → Bool
gives_list types [] None = true
gives_list types (one ∷ []) (Some of) = same_id one of
gives_list types (one ∷ two ∷ rest) (Some of) = are_parts (one ∷ two ∷ rest) (parts_of (term_at types of))
gives_list types _ _ = false

abbrev pub gives_results : Table → Option (List TypeId) → Option TypeId → Bool
gives_results types None register = false
gives_results types (Some results) register = gives_list types results register

-- ---- methods of interfaces

abbrev pub method_named : NameId → ℕ → List MethodType → Option TypeId
method_named name number [] = None
method_named name number (method ∷ methods) =
    if (method.name.number == name.number) && (method.«package» == number) then Some method.of
    else method_named name number methods

abbrev pub method_type : NameId → ℕ → Option TypeTerm → Option TypeId
method_type name number (Some (Interface methods)) = method_named name number methods
method_type name number _ = None

abbrev pub term_where : Table → Option TypeId → Option TypeTerm
term_where types None = None
term_where types (Some of) = term_at types of

-- ---- calls: the results, where the arguments have the types of the parameters

module _ (c : Code) (f : Function) where
  abbrev pub signature_results : List Operand → Option TypeTerm → Option (List TypeId)
  signature_results arguments (Some (Func signature)) =
      if pointwise (is_operand c f) arguments signature.params then Some signature.results else None
  signature_results arguments _ = None

  abbrev pub function_results : List Operand → Option Function → Option (List TypeId)
  function_results arguments None = None
  function_results arguments (Some function) =
      if pointwise (is_operand c f) arguments function.params then Some function.results else None

  -- what is called by its name has no free variables, and initialises no package
  abbrev pub static_results : List Operand → Option Function → Option (List TypeId)
  static_results arguments None = None
  static_results arguments (Some function) =
      if is_value function.kind function.free then function_results arguments (Some function) else None

  abbrev pub dynamic_results : List Operand → Option Known → Option (List TypeId)
  dynamic_results arguments (Some (known_as.Held of)) = signature_results arguments (underlying_term_of c.types of)
  dynamic_results arguments (Some (known_as.Function id)) = function_results arguments (function_at c id)
  dynamic_results arguments _ = None

  abbrev pub results_of : Call → Option (List TypeId)
  results_of (call.Static function arguments) = static_results arguments (function_at c function)
  results_of (call.Dynamic callee arguments) = dynamic_results arguments (known c f callee)
  results_of (call.Invoke receiver name number arguments) =
      signature_results arguments (term_where c.types (method_type name number (shape c f receiver)))
  results_of (call.Builtin called arguments) = None

-- ---- built-in functions

abbrev pub is_cleared : Option TypeTerm → Bool
is_cleared (Some (Map key elem)) = true
is_cleared (Some (Slice elem)) = true
is_cleared _ = false

abbrev pub is_closed : Option TypeTerm → Bool
is_closed (Some (Chan way elem)) = may_send way
is_closed _ = false

abbrev pub is_array : Option TypeTerm → Bool
is_array (Some (Array len elem)) = true
is_array _ = false

abbrev pub points_to_array : Table → Option TypeId → Bool
points_to_array types None = false
points_to_array types (Some base) = is_array (underlying_term_of types base)

abbrev pub has_own_cap : Option TypeTerm → Bool
has_own_cap (Some (Array len elem)) = true
has_own_cap (Some (Slice elem)) = true
has_own_cap (Some (Chan way elem)) = true
has_own_cap _ = false

abbrev pub has_own_len : Option TypeTerm → Bool
has_own_len (Some (Plain basic.Text)) = true
has_own_len (Some (Map key elem)) = true
has_own_len _ = false

abbrev pub is_printed_type : Table → Option TypeId → Bool
is_printed_type types None = false
is_printed_type types (Some of) =
    is_truth (underlying_term_of types of) || (is_some (kind_of types of) || is_text (underlying_term_of types of))

-- integers and strings
abbrev pub is_ordered : Table → TypeId → Bool
is_ordered types of = is_some (kind_of types of) || is_text (underlying_term_of types of)

-- a slice of the elements, or a string where these are bytes
abbrev pub is_run_of : Table → Option TypeTerm → TypeId → Bool
is_run_of types (Some (Slice other)) elem = same_id other elem
is_run_of types (Some (Plain basic.Text)) elem = is_byte (underlying_term_of types elem)
is_run_of types _ elem = false

module _ (c : Code) (f : Function) where
  abbrev pub deletes : Option TypeTerm → Operand → Bool
  deletes (Some (Map key elem)) by = is_operand c f by key
  deletes _ by = false

  abbrev pub copies_from : Option TypeTerm → Operand → Bool
  copies_from (Some (Slice elem)) from = is_run_of c.types (shape c f from) elem
  copies_from _ from = false

  abbrev pub is_printed : Operand → Bool
  is_printed operand = is_printed_type c.types (held_type (known c f operand))

  abbrev pub has_cap : Operand → Bool
  has_cap operand = has_own_cap (shape c f operand) || points_to_array c.types (pointee c f operand)

  -- one more slice of the elements, a string to bytes, or elements
  abbrev pub appends_elems : TypeId → List Operand → Bool
  appends_elems elem (one ∷ []) = is_run_of c.types (shape c f one) elem || is_operand c f one elem
  appends_elems elem items = list_all (λ item. is_operand c f item elem) items

  abbrev pub appends : Option TypeTerm → List Operand → Bool
  appends (Some (Slice elem)) items = appends_elems elem items
  appends _ items = false

  -- those without a result
  abbrev pub fits_effect : Builtin → List Operand → Bool
  fits_effect builtin.Clear (one ∷ []) = is_cleared (shape c f one)
  fits_effect builtin.Close (one ∷ []) = is_closed (shape c f one)
  fits_effect builtin.Delete (map ∷ by ∷ []) = deletes (shape c f map) by
  fits_effect builtin.Print arguments = list_all is_printed arguments
  fits_effect builtin.Println arguments = list_all is_printed arguments
  fits_effect _ arguments = false

  -- those with a result of a type
  abbrev pub fits_value : Builtin → List Operand → TypeId → Bool
  fits_value builtin.Append (slice ∷ items) of =
      is_operand c f slice of && appends (underlying_term_of c.types of) items
  fits_value builtin.Cap (one ∷ []) of = same_id of (basic_id basic.Int) && has_cap one
  fits_value builtin.Len (one ∷ []) of = same_id of (basic_id basic.Int) && (has_cap one || has_own_len (shape c f one))
  fits_value builtin.Copy (to ∷ from ∷ []) of = same_id of (basic_id basic.Int) && copies_from (shape c f to) from
  fits_value builtin.Max (one ∷ rest) of =
      is_ordered c.types of && list_all (λ item. is_operand c f item of) (one ∷ rest)
  fits_value builtin.Min (one ∷ rest) of =
      is_ordered c.types of && list_all (λ item. is_operand c f item of) (one ∷ rest)
  fits_value builtin.Recover [] of = is_any (term_at c.types of)
  fits_value _ arguments of = false

  abbrev pub fits_builtin : Builtin → List Operand → Option TypeId → Bool
  fits_builtin called arguments None = fits_effect called arguments
  fits_builtin called arguments (Some of) = fits_value called arguments of

  -- those whose results are let go; `panic` is called so alone
  abbrev pub fits_deferred_builtin : Builtin → List Operand → Bool
  fits_deferred_builtin builtin.Panic (item ∷ []) = is_any_operand c f item
  fits_deferred_builtin builtin.Copy (to ∷ from ∷ []) = copies_from (shape c f to) from
  fits_deferred_builtin builtin.Recover [] = true
  fits_deferred_builtin called arguments = fits_effect called arguments

  -- a call that gives a register of a type, or none
  abbrev pub fits_call : Call → Option TypeId → Bool
  fits_call (call.Builtin called arguments) register = fits_builtin called arguments register
  fits_call other register = gives_results c.types (results_of c f other) register

  -- a call whose results are let go
  abbrev pub fits_deferred : Call → Bool
  fits_deferred (call.Builtin called arguments) = fits_deferred_builtin called arguments
  fits_deferred other = is_some (results_of c f other)
