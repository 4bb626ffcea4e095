-- The texts of operands and of names in code.
use Rattle.std.specs.Prelude.{ℕ, ◌==◌, nat_eq, true, false, List, [], ◌∷◌, ◌++◌, if◌then◌else◌, codes, slice_get}
use Rattle.std.specs.Prelude.{unwrap_or, decimal, Option, Some, None, position, length}
use Rattle.std.specs.Fmt.{signed_decimal}
use Rattle.go_base.specs.declared.ids.FuncId.{FuncId}
use Rattle.go_text.specs.Naming.{Naming, name_text, label_text}
use Rattle.go_text.specs.Quoted.{quoted_text}
use Rattle.go_text.specs.TypeText.{type_text_of}
use Rattle.ssa_ir.specs.declared.code.Code.{Code}
use Rattle.ssa_ir.specs.declared.code.Function.{Function}
use Rattle.ssa_ir.specs.declared.code.MethodLine.{MethodLine}
use Rattle.go_base.specs.declared.ids.TypeId.{TypeId}
use Rattle.ssa_ir.specs.declared.operands.ConstValue.{ConstValue}
use Rattle.ssa_ir.specs.declared.operands.ConstValue.TheVariants.{Int, Truth, Text, Nil, Zero}
use Rattle.ssa_ir.specs.declared.operands.Operand.{Operand}
use Rattle.ssa_ir.specs.declared.operands.Operand.TheVariants as operand
use Rattle.ssa_print.specs.declared.variables.NamedVariable.{NamedVariable}
use Rattle.ssa_print.specs.Variables.{named_variables}

-- what a code's names are read from
pub record Setting : Type 0 where
  pub naming : Naming
  pub declared : List TypeId
  pub methods : List MethodLine
  pub functions : List Function
  pub variables : List NamedVariable

-- ---- package variables

abbrev pub setting_of : Code → Setting
setting_of code = record {
  naming = record { names = code.names; labels = code.packages; types = code.types };
  declared = code.declared;
  methods = code.methods;
  functions = code.functions;
  variables = named_variables code.names code.variables;
}

abbrev pub blank_text : ℕ → List ℕ
blank_text number = if number == 0 then [] else 35 ∷ decimal number

-- a package variable: its package's label and its name, and the number of a blank one
abbrev pub named_text : Setting → NamedVariable → List ℕ
named_text s v =
    label_text s.naming.labels v.variable.«package»
    ++ (codes "." ++ (name_text s.naming.names v.variable.name ++ blank_text v.blank))

abbrev pub named_text_at : Setting → Option NamedVariable → List ℕ
named_text_at s None = []
named_text_at s (Some v) = named_text s v

abbrev pub variable_text : Setting → ℕ → List ℕ
variable_text s number = named_text_at s (slice_get s.variables number)

-- ---- operands

abbrev pub name_of_function : Option Function → List ℕ
name_of_function None = []
name_of_function (Some function) = function.name

abbrev pub function_text : Setting → FuncId → List ℕ
function_text s function = name_of_function (slice_get s.functions function.number)

abbrev pub value_text : ConstValue → List ℕ
value_text (Int value) = signed_decimal value
value_text (Truth true) = codes "true"
value_text (Truth false) = codes "false"
value_text (Text bytes) = quoted_text bytes
value_text Nil = codes "nil"
value_text Zero = codes "zero"

-- the place of a register among those that the function gives, in the order of the text
abbrev pub register_place : List ℕ → ℕ → ℕ
register_place given register = unwrap_or (position (nat_eq register) given) (length given)

abbrev pub register_text : List ℕ → ℕ → List ℕ
register_text given register = codes "t" ++ decimal (register_place given register)

unfoldable pub operand_text : Setting → List ℕ → Operand → List ℕ
operand_text s given (operand.Param number) = codes "p" ++ decimal number
operand_text s given (operand.Free number) = codes "f" ++ decimal number
operand_text s given (operand.Register register) = register_text given register
operand_text s given (operand.Function function) = function_text s function
operand_text s given (operand.Variable variable) = codes "&" ++ variable_text s variable.number
operand_text s given (operand.Constant value of) = value_text value ++ (codes ":" ++ type_text_of s.naming of)
