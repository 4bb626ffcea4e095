-- The values of constants. Go specification, "Constants", "Arithmetic operators" and "Integer operators".
use Rattle.std.specs.Prelude.{ℕ, ◌^◌, nat_lt, ℤ, pos, negsuc, ◌+ℤ◌, ◌-ℤ◌, ◌*ℤ◌, int_div, int_rem, Bool, true, false}
use Rattle.std.specs.Prelude.{◌&&◌, if◌then◌else◌, Result, Ok, Err}
use Rattle.std.specs.Int.{int_shr, int_bit_and, int_bit_or, int_bit_xor, int_bit_not, w128}
use Rattle.std.specs.Ordering.{int_eq}
use Rattle.go_type.specs.declared.constants.ConstOp.{ConstOp}
use Rattle.go_type.specs.declared.constants.ConstOp.TheVariants as op
use Rattle.go_type.specs.declared.constants.IntFault.{IntFault}
use Rattle.go_type.specs.declared.constants.IntFault.TheVariants as fault

-- the most bytes of a text
abbrev pub max_text : ℕ
max_text = 4194304

-- whether an integer is in -2^127 .. 2^127-1; `negsuc n` is -(n + 1)
abbrev pub fits : ℤ → Bool
fits (pos n) = nat_lt n (2 ^ 127)
fits (negsuc n) = nat_lt n (2 ^ 127)

abbrev pub in_range : ℤ → Result ℤ IntFault
in_range z = if fits z then Ok z else Err fault.OutOfRange

-- the value of an operator at integers; bits are those of two's complement
abbrev pub value_of : ConstOp → ℤ → ℤ → ℤ
value_of op.Add a b = a +ℤ b
value_of op.Sub a b = a -ℤ b
value_of op.Mul a b = a *ℤ b
value_of op.Div a b = int_div a b
value_of op.Rem a b = int_rem a b
value_of op.And a b = int_bit_and w128 a b
value_of op.Or a b = int_bit_or w128 a b
value_of op.Xor a b = int_bit_xor w128 a b
value_of op.AndNot a b = int_bit_and w128 a (int_bit_not w128 b)

-- whether an operator divides by its second operand
abbrev pub divides : ConstOp → Bool
divides op.Div = true
divides op.Rem = true
divides _ = false

abbrev pub int_result : ConstOp → ℤ → ℤ → Result ℤ IntFault
int_result o a b = if divides o && int_eq b (pos 0) then Err fault.ZeroDivisor else in_range (value_of o a b)

-- a times 2 to the count, or a divided by it and rounded down
abbrev pub shifted : Bool → ℤ → ℕ → ℤ
shifted true a count = a *ℤ pos (2 ^ count)
shifted false a count = int_shr a count
