-- Constants that are known by an expression. Go specification, "Constants", "Index expressions" and "Length and
-- capacity".
use Rattle.std.specs.Prelude.{ℤ, pos, int_lt, not, if◌then◌else◌, length, Option, Some, None}
use Rattle.go_base.specs.declared.rule.Rule.{Rule}
use Rattle.go_base.specs.declared.rule.Rule.TheVariants.{ConstantOutOfRange}
use Rattle.go_rules.specs.Operands.{is_integer}
use Rattle.go_tree.specs.declared.exprs.ExprKind.{ExprKind}
use Rattle.go_tree.specs.declared.exprs.ExprKind.TheVariants.{ConstOf}
use Rattle.go_tree.specs.declared.exprs.TypedExpr.{TypedExpr}
use Rattle.go_type.specs.declared.constants.Const.{Const}
use Rattle.go_type.specs.declared.constants.Const.TheVariants as constant
use Rattle.go_type.specs.declared.term.Basic.TheVariants as basic
use Rattle.go_type.specs.Representable.{representable}
use Rattle.go_type.specs.Table.{Table, basic_id}

abbrev pub integer_const : Const → Option ℤ
integer_const (constant.Int number) = Some number
integer_const (constant.Rune number) = Some number
integer_const _ = None

abbrev pub text_const : Const → Option ℤ
text_const (constant.Text bytes) = Some (pos (length bytes))
text_const _ = None

abbrev pub constant_in : ExprKind → Option Const
constant_in (ConstOf value) = Some value
constant_in _ = None

abbrev pub known : {A : Type 0} → Option Const → (Const → Option A) → Option A
known (Some value) f = f value
known None f = None

-- the number of a constant integer
unfoldable pub integer_of : TypedExpr → Option ℤ
integer_of expr = known (constant_in expr.kind) integer_const

-- how many bytes a constant string has
unfoldable pub text_length : TypedExpr → Option ℤ
text_length expr = known (constant_in expr.kind) text_const

abbrev pub number_breach : Table → Rule → Option ℤ → Option Rule
number_breach types rule None = None
number_breach types rule (Some number) =
    if not (representable types (constant.Int number) (basic_id basic.Int)) then Some ConstantOutOfRange
    else if int_lt number (pos 0) then Some rule
    else None

-- "the index x must be an untyped constant or its core type must be an integer; a constant index must be non-negative
-- and representable by a value of type int"
abbrev pub whole_breach : Table → TypedExpr → Rule → Option Rule
whole_breach types expr rule =
    if is_integer types expr.of then number_breach types rule (integer_of expr) else Some rule
