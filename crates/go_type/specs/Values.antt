-- When two constants are one value, and an order of values. Go specification, "Constants": 97 and 'a' are one value
-- once they have a type.
use Rattle.std.specs.Prelude.{◌≡◌, ℕ, ℤ, Bool, List}
use Rattle.std.specs.Ordering.{nat_cmp, int_cmp, bool_cmp, is_eq}
use Rattle.std.specs.Cmp.Lexicographic.{slice_cmp}
use Rattle.std.specs.declared.cmp.Ordering.{Ordering}
use Rattle.go_type.specs.declared.constants.Const.{Const}
use Rattle.go_type.specs.declared.constants.Const.TheVariants as constant

-- integers come before texts, and texts before truths
abbrev pub rank_of : Const → ℕ
rank_of (constant.Int z) = 0
rank_of (constant.Rune z) = 0
rank_of (constant.Text bytes) = 1
rank_of (constant.Truth b) = 2

abbrev pub order_of : Const → Const → Ordering
order_of (constant.Int y) (constant.Int z) = int_cmp y z
order_of (constant.Int y) (constant.Rune z) = int_cmp y z
order_of (constant.Rune y) (constant.Int z) = int_cmp y z
order_of (constant.Rune y) (constant.Rune z) = int_cmp y z
order_of (constant.Text a) (constant.Text b) = slice_cmp nat_cmp a b
order_of (constant.Truth b) (constant.Truth c) = bool_cmp b c
order_of a b = nat_cmp (rank_of a) (rank_of b)

abbrev pub is_same_value : Const → Const → Bool
is_same_value a b = is_eq (order_of a b)
