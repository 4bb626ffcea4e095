-- Operators. Go specification, "Arithmetic operators", "Comparison operators" and "Logical operators".
use Rattle.std.specs.Prelude.{ℕ, ◌++◌, Bool, not, List, ℤ, pos, negsuc, ◌-ℤ◌, Option, Some, None}
use Rattle.std.specs.Prelude.{Result}
use Rattle.std.specs.Cmp.Lexicographic.{slice_cmp}
use Rattle.std.specs.declared.cmp.Ordering.{Ordering}
use Rattle.std.specs.Ordering.{nat_cmp, int_cmp, is_eq, is_ne, is_lt, is_le, is_gt, is_ge}
use Rattle.go_type.specs.Operators.{int_op_of, shift_of}
use Rattle.go_type.specs.declared.constants.ConstOp.{ConstOp}
use Rattle.go_type.specs.declared.kinds.IntKind.{IntKind}
use Rattle.go_type.specs.declared.operators.BinaryOp.{BinaryOp}
use Rattle.go_type.specs.declared.operators.BinaryOp.TheVariants as op
use Rattle.go_type.specs.declared.operators.CompareOp.{CompareOp}
use Rattle.go_type.specs.declared.operators.CompareOp.TheVariants as comparison
use Rattle.go_type.specs.declared.operators.UnaryOp.{UnaryOp}
use Rattle.go_type.specs.declared.operators.UnaryOp.TheVariants as unary
use Rattle.go_maps.specs.Equality.{compared}
use Rattle.go_store.specs.Conversions.{within_limit}
use Rattle.go_value.specs.Ints.{operated, shift_value, wrapped}
use Rattle.go_value.specs.Values.{Val, truth, number, text}
use Rattle.go_value.specs.declared.faults.Fault.{Fault}
use Rattle.ssa_ir.specs.declared.ops.Infix.{Infix}
use Rattle.ssa_ir.specs.declared.ops.Infix.TheVariants as infix_of
use Rattle.ssa_mean.specs.Answers.{Answers}
use Rattle.ssa_mean.specs.Comes.{Comes, to, nowhere, of_result, then_to}

-- ---- integers: in the kind of the left operand

abbrev pub shifted_or_operated : IntKind → Option Bool → Option ConstOp → ℤ → ℤ → Comes Val
shifted_or_operated kind (Some left) o a b = then_to number (of_result (shift_value kind left a b))
shifted_or_operated kind None (Some o) a b = then_to number (of_result (operated kind o a b))
shifted_or_operated kind None None a b = nowhere

abbrev pub on_integers : Option IntKind → BinaryOp → ℤ → ℤ → Comes Val
on_integers None o a b = nowhere
on_integers (Some kind) o a b = shifted_or_operated kind (shift_of o) (int_op_of o) a b

-- ---- strings: "String concatenation"

abbrev pub on_texts : BinaryOp → List ℕ → List ℕ → Comes Val
on_texts op.Add a b = then_to text (of_result (within_limit (a ++ b)))
on_texts _ a b = nowhere

abbrev pub operation : Option IntKind → BinaryOp → Val → Val → Comes Val
operation kind o (number a) (number b) = on_integers kind o a b
operation kind o (text a) (text b) = on_texts o a b
operation kind o _ _ = nowhere

-- ---- comparisons: integers and strings are ordered, strings by their bytes; all others are equal or not

abbrev pub holds : CompareOp → Ordering → Bool
holds comparison.Equal order = is_eq order
holds comparison.NotEqual order = is_ne order
holds comparison.Less order = is_lt order
holds comparison.LessEqual order = is_le order
holds comparison.Greater order = is_gt order
holds comparison.GreaterEqual order = is_ge order

abbrev pub equality : CompareOp → Result Bool Fault → Comes Val
equality comparison.Equal outcome = then_to truth (of_result outcome)
equality comparison.NotEqual outcome = then_to (λ same. truth (not same)) (of_result outcome)
equality _ outcome = nowhere

abbrev pub comparison_of : Answers → CompareOp → Val → Val → Comes Val
comparison_of answers o (number a) (number b) = to (truth (holds o (int_cmp a b)))
comparison_of answers o (text a) (text b) = to (truth (holds o (slice_cmp nat_cmp a b)))
comparison_of answers o a b = equality o (compared answers.comparable a b)

abbrev pub binary : Answers → Option IntKind → Infix → Val → Val → Comes Val
binary answers kind (infix_of.Operate o) a b = operation kind o a b
binary answers kind (infix_of.Compare o) a b = comparison_of answers o a b

-- ---- one operand: -x is 0 - x, and ^x has the bits that x has not, as -1 - x has

abbrev pub negated : UnaryOp → IntKind → ℤ → Comes Val
negated unary.Negate kind a = to (number (wrapped kind (pos 0 -ℤ a)))
negated unary.Complement kind a = to (number (wrapped kind (negsuc 0 -ℤ a)))
negated unary.Not kind a = nowhere

abbrev pub negated_in : Option IntKind → UnaryOp → ℤ → Comes Val
negated_in None o a = nowhere
negated_in (Some kind) o a = negated o kind a

abbrev pub not_of : UnaryOp → Bool → Comes Val
not_of unary.Not it = to (truth (not it))
not_of _ it = nowhere

abbrev pub unary_of : Option IntKind → UnaryOp → Val → Comes Val
unary_of kind o (number a) = negated_in kind o a
unary_of kind o (truth it) = not_of o it
unary_of kind o _ = nowhere
