-- Integers of each kind. Go specification, "Arithmetic operators", "Integer operators", "Integer overflow" and
-- "Conversions between numeric types".
use Rattle.std.specs.Prelude.{ℕ, ◌==◌, ◌-◌, ◌^◌, Bool, true, false, not, ◌&&◌, if◌then◌else◌, ℤ, pos, ◌-ℤ◌, ◌*ℤ◌}
use Rattle.std.specs.Prelude.{int_lt, Result, Ok, Err, unsigned_abs}
use Rattle.std.specs.Int.{int_rem_euclid, int_shr}
use Rattle.std.specs.Ordering.{int_eq}
use Rattle.go_type.specs.declared.kinds.IntKind.{IntKind}
use Rattle.go_type.specs.declared.constants.ConstOp.{ConstOp}
use Rattle.go_type.specs.Constants.{value_of, divides}
use Rattle.go_value.specs.declared.faults.Fault.{Fault}
use Rattle.go_value.specs.declared.faults.Fault.TheVariants as fault

-- the width of a kind
abbrev pub bits_of : IntKind → ℕ
bits_of kind = if kind.bits == 8 then 8 else (if kind.bits == 16 then 16 else (if kind.bits == 32 then 32 else 64))

-- an integer modulo 2 to the width
abbrev pub residue : ℕ → ℤ → ℤ
residue bits z = int_rem_euclid z (pos (2 ^ bits))

-- what a residue stands for in a kind: the upper half of those of a signed kind are negative
abbrev pub as_kind : IntKind → ℤ → ℤ
as_kind kind r = if kind.signed && not (int_lt r (pos (2 ^ (bits_of kind - 1)))) then r -ℤ pos (2 ^ bits_of kind) else r

-- the integer of a kind that has the same lowest bits
abbrev pub wrapped : IntKind → ℤ → ℤ
wrapped kind z = as_kind kind (residue (bits_of kind) z)

-- the value of an operator in a kind
abbrev pub operated : IntKind → ConstOp → ℤ → ℤ → Result ℤ Fault
operated kind o a b =
    if divides o && int_eq b (pos 0) then Err fault.ZeroDivisor else Ok (wrapped kind (value_of o a b))

-- an integer times 2 to a count, in a kind; or divided by it, rounded down
abbrev pub shifted_in : IntKind → Bool → ℤ → ℕ → ℤ
shifted_in kind true a count = wrapped kind (a *ℤ pos (2 ^ count))
shifted_in kind false a count = int_shr a count

-- the value of a shift in a kind: there is no upper limit on the count
abbrev pub shift_value : IntKind → Bool → ℤ → ℤ → Result ℤ Fault
shift_value kind left a count =
    if int_lt count (pos 0) then Err fault.NegativeShift else Ok (shifted_in kind left a (unsigned_abs count))
