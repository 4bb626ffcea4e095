-- Operands: their values in a frame, and their types.
use Rattle.std.specs.Prelude.{ℕ, List, [], ◌∷◌, Option, Some, None, slice_get}
use Rattle.std.specs.Option.{option_and_then, option_flatten, option_map}
use Rattle.go_base.specs.declared.ids.FuncId.{FuncId}
use Rattle.go_base.specs.declared.ids.TypeId.{TypeId}
use Rattle.go_base.specs.declared.ids.VarId.{VarId}
use Rattle.go_type.specs.Assignable.{underlying_term_of}
use Rattle.go_type.specs.Table.{Table, id_of}
use Rattle.go_type.specs.declared.term.TypeTerm.{TypeTerm}
use Rattle.go_type.specs.declared.term.TypeTerm.TheVariants as term
use Rattle.go_value.specs.Values.{Val, truth, number, text, pointer, closure}
use Rattle.go_value.specs.declared.address.Pointer.{Pointer}
use Rattle.ssa_ir.specs.declared.code.Code.{Code}
use Rattle.ssa_ir.specs.declared.code.Function.{Function}
use Rattle.ssa_ir.specs.declared.operands.ConstValue.{ConstValue}
use Rattle.ssa_ir.specs.declared.operands.ConstValue.TheVariants as constant
use Rattle.ssa_ir.specs.declared.operands.Operand.{Operand}
use Rattle.ssa_ir.specs.declared.operands.Operand.TheVariants as operand
use Rattle.ssa_mean.specs.State.{Frame}
use Rattle.ssa_mean.specs.Zeros.{zero_of}

abbrev pub function_at : Code → FuncId → Option Function
function_at code id = slice_get code.functions id.number

-- ---- values

abbrev pub constant_value : Code → ConstValue → TypeId → Option Val
constant_value code (constant.Int it) of = Some (number it)
constant_value code (constant.Truth it) of = Some (truth it)
constant_value code (constant.Text it) of = Some (text it)
constant_value code constant.Nil of = zero_of code of
constant_value code constant.Zero of = zero_of code of

-- package variables are the first cells
abbrev pub variable_cell : VarId → Pointer
variable_cell variable = record { cell = Some (record { number = variable.number }); path = [] }

-- the value of an operand in a frame
abbrev pub value_of : Code → Frame → Operand → Option Val
value_of code frame (operand.Param n) = slice_get frame.parameters n
value_of code frame (operand.Free n) = slice_get frame.free n
value_of code frame (operand.Register n) = option_flatten (slice_get frame.registers n)
value_of code frame (operand.Function id) = Some (closure id [])
value_of code frame (operand.Variable variable) = Some (pointer (variable_cell variable))
value_of code frame (operand.Constant it of) = constant_value code it of

abbrev pub with_value : Option Val → Option (List Val) → Option (List Val)
with_value it others = option_and_then (λ first. option_map (λ rest. first ∷ rest) others) it

-- the values of operands, where all have one
abbrev pub values_of : Code → Frame → List Operand → Option (List Val)
values_of code frame [] = Some []
values_of code frame (first ∷ others) = with_value (value_of code frame first) (values_of code frame others)

-- ---- types

-- the type of a function that is a value
abbrev pub function_type : Code → Function → Option TypeId
function_type code function =
    id_of (term.Func (record { params = function.params; results = function.results; variadic = function.variadic }))
    code.types

abbrev pub variable_type : Code → VarId → Option TypeId
variable_type code variable = option_map (λ it. it.of) (slice_get code.variables variable.number)

abbrev pub pointer_type : Code → TypeId → Option TypeId
pointer_type code base = id_of (term.Pointer base) code.types

-- the type of an operand, where the code has it
abbrev pub type_of : Code → Function → Operand → Option TypeId
type_of code function (operand.Param n) = slice_get function.params n
type_of code function (operand.Free n) = slice_get function.free n
type_of code function (operand.Register n) = slice_get function.registers n
type_of code function (operand.Function id) = option_and_then (function_type code) (function_at code id)
type_of code function (operand.Variable variable) = option_and_then (pointer_type code) (variable_type code variable)
type_of code function (operand.Constant it of) = Some of

-- the underlying term of a type
abbrev pub under_in : Table → Option TypeId → Option TypeTerm
under_in types of = option_and_then (underlying_term_of types) of

abbrev pub under : Code → Option TypeId → Option TypeTerm
under code of = under_in code.types of

abbrev pub term_of : Code → Function → Operand → Option TypeTerm
term_of code function it = under code (type_of code function it)

abbrev pub base_of : Option TypeTerm → Option TypeId
base_of (Some (term.Pointer base)) = Some base
base_of _ = None

-- the type of what an operand points to. The address of a package variable needs no type of its own
abbrev pub pointed_type : Code → Function → Operand → Option TypeId
pointed_type code function (operand.Variable variable) = variable_type code variable
pointed_type code function it = base_of (term_of code function it)

abbrev pub length_in : Option TypeTerm → Option ℕ
length_in (Some (term.Array len elem)) = Some len
length_in _ = None

-- the length of the array that an operand points to
abbrev pub pointed_length : Code → Function → Operand → Option ℕ
pointed_length code function it = length_in (under code (pointed_type code function it))

-- the type of the elements of a slice, an array, a map or a channel
abbrev pub element_in : Option TypeTerm → Option TypeId
element_in (Some (term.Slice elem)) = Some elem
element_in (Some (term.Array len elem)) = Some elem
element_in (Some (term.Map key elem)) = Some elem
element_in (Some (term.Chan dir elem)) = Some elem
element_in _ = None

abbrev pub element_type : Code → Function → Operand → Option TypeId
element_type code function it = element_in (term_of code function it)
