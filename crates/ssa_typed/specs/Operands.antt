-- The types of operands.
use Rattle.std.specs.Prelude.{ℕ, ◌==◌, Bool, false, ◌&&◌, List, length, Option, Some, None, if◌then◌else◌, is_some}
use Rattle.std.specs.Prelude.{slice_get}
use Rattle.std.specs.Bool.{beq}
use Rattle.go_base.specs.declared.ids.FuncId.{FuncId}
use Rattle.go_base.specs.declared.ids.TypeId.{TypeId}
use Rattle.go_type.specs.Assignable.{underlying_term_of}
use Rattle.go_type.specs.Kinds.{kind_of}
use Rattle.go_type.specs.Representable.{representable}
use Rattle.go_type.specs.Same.{same_id, same_ids}
use Rattle.go_type.specs.Table.{Table, term_at}
use Rattle.go_type.specs.declared.constants.Const.TheVariants as const
use Rattle.go_type.specs.declared.term.Signature.{Signature}
use Rattle.go_type.specs.declared.term.TypeTerm.{TypeTerm}
use Rattle.go_type.specs.declared.term.TypeTerm.TheVariants.{Func}
use Rattle.ssa_ir.specs.declared.code.Code.{Code}
use Rattle.ssa_ir.specs.declared.code.CodeVariable.{CodeVariable}
use Rattle.ssa_ir.specs.declared.code.Function.{Function}
use Rattle.ssa_ir.specs.declared.code.FunctionKind.{FunctionKind}
use Rattle.ssa_ir.specs.declared.code.FunctionKind.TheVariants as kind
use Rattle.ssa_ir.specs.declared.operands.ConstValue.{ConstValue}
use Rattle.ssa_ir.specs.declared.operands.ConstValue.TheVariants as value
use Rattle.ssa_ir.specs.declared.operands.Operand.{Operand}
use Rattle.ssa_ir.specs.declared.operands.Operand.TheVariants as operand
use Rattle.type_shapes.specs.Shapes.{is_text, is_truth, is_any, is_pointer_to, has_nil, has_zero, base_of}
use Rattle.ssa_typed.specs.declared.known.Known.{Known}
use Rattle.ssa_typed.specs.declared.known.Known.TheVariants as known_as

-- ---- functions

abbrev pub function_at : Code → FuncId → Option Function
function_at c id = slice_get c.functions id.number

abbrev pub is_signature : Signature → Function → Bool
is_signature signature function =
    same_ids signature.params function.params
    && (same_ids signature.results function.results && beq signature.variadic function.variadic)

-- a function type is that of a function
abbrev pub is_function_type : Option TypeTerm → Option Function → Bool
is_function_type (Some (Func signature)) (Some function) = is_signature signature function
is_function_type _ _ = false

-- a function that is a value has no free variables, and initialises no package
abbrev pub is_value : FunctionKind → List TypeId → Bool
is_value kind.Init free = false
is_value _ free = length free == 0

abbrev pub value_of : FuncId → Option Function → Option Known
value_of id None = None
value_of id (Some function) = if is_value function.kind function.free then Some (known_as.Function id) else None

-- ---- what is known of an operand: none where it names nothing that is held, or is a constant that its type has not

abbrev pub type_of : Option TypeId → Option Known
type_of None = None
type_of (Some of) = Some (known_as.Held of)

abbrev pub address_of : Option CodeVariable → Option Known
address_of None = None
address_of (Some variable) = Some (known_as.Address variable.of)

abbrev pub register_at : Function → ℕ → Option TypeId
register_at f register = slice_get f.registers register

-- the constants of a type, by its underlying type
abbrev pub has_constant : Table → ConstValue → TypeId → Bool
has_constant types (value.Int z) of = representable types (const.Int z) of
has_constant types (value.Truth b) of = is_truth (underlying_term_of types of)
has_constant types (value.Text bytes) of = is_text (underlying_term_of types of)
has_constant types value.Nil of = has_nil (underlying_term_of types of)
has_constant types value.Zero of = has_zero (underlying_term_of types of)

module _ (c : Code) (f : Function) where
  abbrev pub known : Operand → Option Known
  known (operand.Param number) = type_of (slice_get f.params number)
  known (operand.Free number) = type_of (slice_get f.free number)
  known (operand.Register number) = type_of (register_at f number)
  known (operand.Function id) = value_of id (function_at c id)
  known (operand.Variable variable) = address_of (slice_get c.variables variable.number)
  known (operand.Constant value of) = if has_constant c.types value of then Some (known_as.Held of) else None

-- ---- the type of an operand

abbrev pub is_known : Code → Option Known → TypeId → Bool
is_known c None of = false
is_known c (Some (known_as.Held id)) of = same_id id of
is_known c (Some (known_as.Function id)) of = is_function_type (term_at c.types of) (function_at c id)
is_known c (Some (known_as.Address base)) of = is_pointer_to (term_at c.types of) base

-- the type of what is neither a function nor an address
abbrev pub held_type : Option Known → Option TypeId
held_type (Some (known_as.Held id)) = Some id
held_type _ = None

-- the underlying term of a type
abbrev pub term_of : Table → Option TypeId → Option TypeTerm
term_of types None = None
term_of types (Some of) = underlying_term_of types of

abbrev pub is_integer_type : Table → Option TypeId → Bool
is_integer_type types None = false
is_integer_type types (Some of) = is_some (kind_of types of)

-- what is pointed to
abbrev pub pointee_of : Table → Option Known → Option TypeId
pointee_of types (Some (known_as.Held id)) = base_of (underlying_term_of types id)
pointee_of types (Some (known_as.Address base)) = Some base
pointee_of types _ = None

abbrev pub is_any_type : Table → Option TypeId → Bool
is_any_type types None = false
is_any_type types (Some of) = is_any (term_at types of)

module _ (c : Code) (f : Function) where
  abbrev pub is_operand : Operand → TypeId → Bool
  is_operand operand of = is_known c (known c f operand) of

  -- the operand has the type that is wanted, where there is one
  abbrev pub is_where : Operand → Option TypeId → Bool
  is_where operand None = false
  is_where operand (Some of) = is_operand operand of

  -- the underlying term of an operand that is neither a function nor an address
  abbrev pub shape : Operand → Option TypeTerm
  shape operand = term_of c.types (held_type (known c f operand))

  abbrev pub is_integer_operand : Operand → Bool
  is_integer_operand operand = is_integer_type c.types (held_type (known c f operand))

  abbrev pub is_truth_operand : Operand → Bool
  is_truth_operand operand = is_truth (shape operand)

  -- the operand has the type `interface{}`
  abbrev pub is_any_operand : Operand → Bool
  is_any_operand operand = is_any_type c.types (held_type (known c f operand))

  abbrev pub pointee : Operand → Option TypeId
  pointee operand = pointee_of c.types (known c f operand)
