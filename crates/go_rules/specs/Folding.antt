-- Operations on constants. Go specification, "Constant expressions", "Arithmetic operators", "Integer operators",
-- "String concatenation", "Comparison operators" and "Logical operators".
use Rattle.std.specs.Prelude.{ℕ, ◌^◌, ◌-◌, nat_lt, ℤ, pos, negsuc, int_lt, unsigned_abs, Bool, true, false, not, ◌&&◌}
use Rattle.std.specs.Prelude.{◌||◌, if◌then◌else◌, List, ◌++◌, length, Option, Some, None, Result, Ok, Err}
use Rattle.std.specs.Ordering.{is_eq, is_ne, is_lt, is_le, is_gt, is_ge}
use Rattle.go_base.specs.declared.ids.TypeId.{TypeId}
use Rattle.go_base.specs.declared.rule.Rule.TheVariants.{ConstantOutOfRange, DivisionByZero, BadShift, BadOperand}
use Rattle.go_type.specs.declared.constants.Const.{Const}
use Rattle.go_type.specs.declared.constants.Const.TheVariants as constant
use Rattle.go_type.specs.declared.constants.ConstOp.{ConstOp}
use Rattle.go_type.specs.declared.constants.ConstOp.TheVariants as op
use Rattle.go_type.specs.declared.constants.IntFault.{IntFault}
use Rattle.go_type.specs.declared.constants.IntFault.TheVariants as fault
use Rattle.go_type.specs.declared.operators.UnaryOp.{UnaryOp}
use Rattle.go_type.specs.declared.operators.UnaryOp.TheVariants as unary
use Rattle.go_type.specs.declared.operators.CompareOp.{CompareOp}
use Rattle.go_type.specs.declared.operators.CompareOp.TheVariants as compare
use Rattle.go_type.specs.declared.term.Basic.{Basic}
use Rattle.go_type.specs.declared.term.Basic.TheVariants as basic
use Rattle.go_type.specs.declared.term.TypeTerm.{TypeTerm}
use Rattle.go_type.specs.declared.term.TypeTerm.TheVariants.{Basic as Plain}
use Rattle.go_type.specs.Constants.{in_range, int_result, max_text, shifted}
use Rattle.go_type.specs.Representable.{is_unsigned, representable}
use Rattle.go_type.specs.Table.{Table, term_at, underlying_of}
use Rattle.go_type.specs.Values.{order_of}
use Rattle.go_rules.specs.declared.breach.Breach.{Breach}
use Rattle.go_rules.specs.declared.folding.LogicOp.{LogicOp}
use Rattle.go_rules.specs.declared.folding.LogicOp.TheVariants as logic
use Rattle.go_rules.specs.declared.untyped.Untyped.{Untyped}
use Rattle.go_rules.specs.declared.untyped.Untyped.TheVariants as kind
use Rattle.go_rules.specs.Breaches.{whole, first, second}
use Rattle.go_rules.specs.Untyped.{kind_at}

-- the constant that an integer is: among the untyped ones runes are told from the other integers
abbrev pub made_of : Option Untyped → ℤ → Const
made_of (Some kind.Rune) z = constant.Rune z
made_of _ z = constant.Int z

abbrev pub made : Table → TypeId → ℤ → Const
made types of z = made_of (kind_at types of) z

abbrev pub remade : Table → TypeId → Const → Const
remade types of (constant.Int z) = made types of z
remade types of (constant.Rune z) = made types of z
remade types of value = value

-- a constant as one of a type, in which its value has to be
abbrev pub as_constant : Table → Const → TypeId → Result Const Breach
as_constant types value of =
    if representable types value of then Ok (remade types of value) else Err (whole ConstantOutOfRange)

-- what an operation on integers gives as a constant of a type
abbrev pub typed_value : Table → TypeId → Result ℤ IntFault → Result Const Breach
typed_value types of (Ok z) = as_constant types (constant.Int z) of
typed_value types of (Err fault.OutOfRange) = Err (whole ConstantOutOfRange)
typed_value types of (Err fault.ZeroDivisor) = Err (second DivisionByZero)

abbrev pub integer_folded : Table → ConstOp → ℤ → ℤ → TypeId → Result Const Breach
integer_folded types o a b of = typed_value types of (int_result o a b)

-- a constant count is not negative, and a value of `uint`
abbrev pub count_checked : ℤ → Result (Unit {0}) Breach
count_checked count =
    if int_lt count (pos 0) then Err (second BadShift)
    else if is_unsigned 64 count then Ok tt
    else Err (second ConstantOutOfRange)

abbrev pub counted : Result (Unit {0}) Breach → Result Const Breach → Result Const Breach
counted (Ok _) value = value
counted (Err breach) value = Err breach

abbrev pub shift_folded : Table → Bool → ℤ → ℤ → TypeId → Result Const Breach
shift_folded types left a count of =
    counted (count_checked count) (typed_value types of (in_range (shifted left a (unsigned_abs count))))

abbrev pub text_folded : List ℕ → List ℕ → Result Const Breach
text_folded a b =
    if nat_lt max_text (length (a ++ b)) then Err (whole ConstantOutOfRange) else Ok (constant.Text (a ++ b))

-- of the operators of arithmetic, texts have "+" alone
abbrev pub texts_folded : ConstOp → List ℕ → List ℕ → Result Const Breach
texts_folded op.Add a b = text_folded a b
texts_folded _ a b = Err (whole BadOperand)

abbrev pub arithmetic_folded : Table → ConstOp → Const → Const → TypeId → Result Const Breach
arithmetic_folded types o (constant.Int y) (constant.Int z) of = integer_folded types o y z of
arithmetic_folded types o (constant.Int y) (constant.Rune z) of = integer_folded types o y z of
arithmetic_folded types o (constant.Rune y) (constant.Int z) of = integer_folded types o y z of
arithmetic_folded types o (constant.Rune y) (constant.Rune z) of = integer_folded types o y z of
arithmetic_folded types o (constant.Text a) (constant.Text b) of = texts_folded o a b
arithmetic_folded types o _ _ of = Err (whole BadOperand)

-- "^x: bitwise complement is m ^ x with m = all bits set to 1 for unsigned x and m = -1 for signed x"
abbrev pub ones_of : Basic → ℤ
ones_of basic.Uint8 = pos (2 ^ 8 - 1)
ones_of basic.Uint16 = pos (2 ^ 16 - 1)
ones_of basic.Uint32 = pos (2 ^ 32 - 1)
ones_of basic.Uint64 = pos (2 ^ 64 - 1)
ones_of basic.Uint = pos (2 ^ 64 - 1)
ones_of _ = negsuc 0

abbrev pub ones_of_term : Option TypeTerm → ℤ
ones_of_term (Some (Plain plain)) = ones_of plain
ones_of_term _ = negsuc 0

abbrev pub all_ones : Table → TypeId → ℤ
all_ones types of = ones_of_term (term_at types (underlying_of types of))

-- "-x: negation is 0 - x"
abbrev pub sign_folded : Table → Bool → ℤ → TypeId → Result Const Breach
sign_folded types true a of = integer_folded types op.Sub (pos 0) a of
sign_folded types false a of = integer_folded types op.Xor a (all_ones types of) of

abbrev pub unary_folded : Table → UnaryOp → Const → TypeId → Result Const Breach
unary_folded types unary.Negate (constant.Int a) of = sign_folded types true a of
unary_folded types unary.Negate (constant.Rune a) of = sign_folded types true a of
unary_folded types unary.Complement (constant.Int a) of = sign_folded types false a of
unary_folded types unary.Complement (constant.Rune a) of = sign_folded types false a of
unary_folded types unary.Not (constant.Truth a) of = Ok (constant.Truth (not a))
unary_folded types _ _ of = Err (first BadOperand)

-- integers are compared by size, texts by their bytes
abbrev pub compared : CompareOp → Const → Const → Bool
compared compare.Equal a b = is_eq (order_of a b)
compared compare.NotEqual a b = is_ne (order_of a b)
compared compare.Less a b = is_lt (order_of a b)
compared compare.LessEqual a b = is_le (order_of a b)
compared compare.Greater a b = is_gt (order_of a b)
compared compare.GreaterEqual a b = is_ge (order_of a b)

abbrev pub logic_folded : LogicOp → Bool → Bool → Bool
logic_folded logic.And a b = a && b
logic_folded logic.Or a b = a || b
