-- Which constants are values of which types. Go specification, "Representability" and "Numeric types".
use Rattle.std.specs.Prelude.{ℕ, ◌^◌, ◌-◌, nat_lt, ℤ, pos, negsuc, Bool, true, false, Option, Some}
use Rattle.go_base.specs.declared.ids.TypeId.{TypeId}
use Rattle.go_type.specs.declared.constants.Const.{Const}
use Rattle.go_type.specs.declared.constants.Const.TheVariants as constant
use Rattle.go_type.specs.declared.term.Basic.{Basic}
use Rattle.go_type.specs.declared.term.Basic.TheVariants as basic
use Rattle.go_type.specs.declared.term.TypeTerm.{TypeTerm}
use Rattle.go_type.specs.declared.term.TypeTerm.TheVariants.{Basic as Plain}
use Rattle.go_type.specs.Table.{Table, term_at, underlying_of}

-- whether an integer is in -2^(bits - 1) .. 2^(bits - 1) - 1; `negsuc n` is -(n + 1)
abbrev pub is_signed : ℕ → ℤ → Bool
is_signed bits (pos n) = nat_lt n (2 ^ (bits - 1))
is_signed bits (negsuc n) = nat_lt n (2 ^ (bits - 1))

-- whether it is in 0 .. 2^bits - 1
abbrev pub is_unsigned : ℕ → ℤ → Bool
is_unsigned bits (pos n) = nat_lt n (2 ^ bits)
is_unsigned bits (negsuc n) = false

-- the integers of a type; `int` and `uint` have 64 bits
abbrev pub has_integer : Basic → ℤ → Bool
has_integer basic.Int z = is_signed 64 z
has_integer basic.Int8 z = is_signed 8 z
has_integer basic.Int16 z = is_signed 16 z
has_integer basic.Int32 z = is_signed 32 z
has_integer basic.Int64 z = is_signed 64 z
has_integer basic.Uint z = is_unsigned 64 z
has_integer basic.Uint8 z = is_unsigned 8 z
has_integer basic.Uint16 z = is_unsigned 16 z
has_integer basic.Uint32 z = is_unsigned 32 z
has_integer basic.Uint64 z = is_unsigned 64 z
has_integer basic.UntypedInt z = true
has_integer basic.UntypedRune z = true
has_integer _ z = false

abbrev pub has_text : Basic → Bool
has_text basic.Text = true
has_text basic.UntypedText = true
has_text _ = false

abbrev pub has_truth : Basic → Bool
has_truth basic.Bool = true
has_truth basic.UntypedBool = true
has_truth _ = false

abbrev pub has_value : Basic → Const → Bool
has_value kind (constant.Int z) = has_integer kind z
has_value kind (constant.Rune z) = has_integer kind z
has_value kind (constant.Text bytes) = has_text kind
has_value kind (constant.Truth b) = has_truth kind

-- types that are not basic have no constants
abbrev pub term_has : Option TypeTerm → Const → Bool
term_has (Some (Plain kind)) value = has_value kind value
term_has _ value = false

abbrev pub representable : Table → Const → TypeId → Bool
representable types value to = term_has (term_at types (underlying_of types to)) value
