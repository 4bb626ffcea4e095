-- Operators.
use Rattle.std.proofs.Common.{ℕ, ◌≡◌, ℤ, pos, negsuc, ◌-ℤ◌, Bool, true, false, not, ◌&&◌, List, [], ◌∷◌, ◌++◌, Option}
use Rattle.std.proofs.Common.{Some, None}
use Rattle.std.proofs.Common.{refl, sym, ap, ap₂, subst, ◌∙◌, ◌==◌, Result, Ok, Err}
use Rattle.std.proofs.lemmas.Map.Text.{is_eq-slice_cmp}
use Rattle.std.proofs.lemmas.Option.{none-some, same_Some}
use Rattle.std.specs.Bool.{beq}
use Rattle.std.specs.Cmp.Lexicographic.{slice_cmp}
use Rattle.std.specs.Ordering.{nat_cmp, int_cmp, is_eq}
use Rattle.std.specs.Str.{bytes_eq}
use Rattle.std.specs.declared.cmp.Ordering.{Ordering}
use Rattle.std.specs.declared.cmp.Ordering.TheVariants.{Less, Equal, Greater}
use Rattle.code_plan.specs.Forms.{wants_equal, kind_at}
use Rattle.code_plan.specs.declared.steps.Step.TheVariants as act
use Rattle.go_maps.specs.Equality.{compared, same_numbers}
use Rattle.go_store.specs.Conversions.{within_limit}
use Rattle.go_type.specs.Operators.{int_op_of, shift_of}
use Rattle.go_type.specs.declared.constants.ConstOp.{ConstOp}
use Rattle.go_type.specs.declared.kinds.IntKind.{IntKind}
use Rattle.go_type.specs.declared.operators.BinaryOp.{BinaryOp}
use Rattle.go_type.specs.declared.operators.BinaryOp.TheVariants as infix_op
use Rattle.go_type.specs.declared.operators.CompareOp.{CompareOp}
use Rattle.go_type.specs.declared.operators.CompareOp.TheVariants as comparison
use Rattle.go_type.specs.declared.operators.UnaryOp.{UnaryOp}
use Rattle.go_type.specs.declared.operators.UnaryOp.TheVariants as unary
use Rattle.go_value.specs.Ints.{operated, shift_value, wrapped}
use Rattle.go_value.specs.Values.{Val, truth, number, text}
use Rattle.go_value.specs.declared.faults.Fault.{Fault}
use Rattle.plan_laws.proofs.Acting.{Agree, plan_site}
use Rattle.plan_laws.proofs.Agreeing.{agree_nowhere, agree_same, gives_one, gives_two, gives_integers, gives_texts}
use Rattle.plan_laws.proofs.Agreeing.{gives_integer}
use Rattle.plan_laws.proofs.Giving.{IsAlikeSettled, alike_from}
use Rattle.plan_laws.proofs.Values.{IsAlike}
use Rattle.plan_mean.specs.Step as planned
use Rattle.plan_mean.specs.Step.{acts as planned_acts}
use Rattle.ssa_ir.specs.declared.operands.Operand.{Operand}
use Rattle.ssa_ir.specs.declared.ops.Infix.{Infix}
use Rattle.ssa_ir.specs.declared.ops.Infix.TheVariants as infix_of
use Rattle.ssa_ir.specs.declared.ops.Op.TheVariants as op
use Rattle.ssa_mean.specs.Answers.{Answers}
use Rattle.ssa_mean.specs.Arithmetic.{binary, operation, on_integers, shifted_or_operated, comparison_of, equality}
use Rattle.ssa_mean.specs.Arithmetic.{holds, unary_of}
use Rattle.ssa_mean.specs.Comes.{Comes, to, of_result, then_to}
use Rattle.ssa_mean.specs.Step.{acts}

-- ---- integers

shifted_agrees : (kind : Option IntKind) (o : BinaryOp) (it : IntKind) (left : Bool) → kind ≡ Some it
    → shift_of o ≡ Some left → (n m : ℤ)
    → Agree (operation kind o (number n) (number m)) (then_to number (of_result (shift_value it left n m)))
shifted_agrees kind o it left is_kind is_shift n m =
    subst (λ (kind : Option IntKind). Agree (on_integers kind o n m) (then_to number (of_result (shift_value it left n m))))
    (sym is_kind)
    (agree_same (on_integers (Some it) o n m) (then_to number (of_result (shift_value it left n m)))
    (ap (λ (shift : Option Bool). shifted_or_operated it shift (int_op_of o) n m) (sym is_shift)))

operated_agrees : (kind : Option IntKind) (o : BinaryOp) (it : IntKind) (int_op : ConstOp) → kind ≡ Some it
    → shift_of o ≡ None → int_op_of o ≡ Some int_op → (n m : ℤ)
    → Agree (operation kind o (number n) (number m)) (then_to number (of_result (operated it int_op n m)))
operated_agrees kind o it int_op is_kind no_shift is_op n m =
    subst (λ (kind : Option IntKind). Agree (on_integers kind o n m) (then_to number (of_result (operated it int_op n m))))
    (sym is_kind)
    (agree_same (on_integers (Some it) o n m) (then_to number (of_result (operated it int_op n m)))
    (ap₂ (λ (shift : Option Bool) (int_op : Option ConstOp). shifted_or_operated it shift int_op n m) (sym no_shift)
    (sym is_op)))

joined_agrees : (kind : Option IntKind) (o : BinaryOp) → o ≡ infix_op.Add → (s t : List ℕ)
    → Agree (operation kind o (text s) (text t)) (then_to text (of_result (within_limit (s ++ t))))
joined_agrees kind o is s t =
    agree_same (operation kind o (text s) (text t)) (then_to text (of_result (within_limit (s ++ t))))
    (ap (λ o. operation kind o (text s) (text t)) (sym is))

operate_settled : (o : BinaryOp) (left right : Operand) → IsAlikeSettled (op.Binary (infix_of.Operate o) left right)
unfolding acts planned_acts
operate_settled o left right k known a register (act.Shift is_left kind one other slot) may is acting =
    gives_integers k known a (act.Shift is_left kind one other slot) acting register slot is.4 may left right one other
    is.2 is.3 (binary k.w.answers (kind_at (plan_site k a) left) (infix_of.Operate o))
    (λ n m. then_to number (of_result (shift_value kind is_left n m)))
    (shifted_agrees (kind_at (plan_site k a) left) o kind is_left is.0 is.1)
operate_settled o left right k known a register (act.Arithmetic int_op kind one other slot) may is acting =
    gives_integers k known a (act.Arithmetic int_op kind one other slot) acting register slot is.5 may left right one
    other is.3 is.4 (binary k.w.answers (kind_at (plan_site k a) left) (infix_of.Operate o))
    (λ n m. then_to number (of_result (operated kind int_op n m)))
    (operated_agrees (kind_at (plan_site k a) left) o kind int_op is.0 is.1 is.2)
operate_settled o left right k known a register (act.Join one other slot) may is acting =
    gives_texts k known a (act.Join one other slot) acting register slot is.3 may left right one other is.1 is.2
    (binary k.w.answers (kind_at (plan_site k a) left) (infix_of.Operate o))
    (λ s t. then_to text (of_result (within_limit (s ++ t))))
    (joined_agrees (kind_at (plan_site k a) left) o is.0)
operate_settled o left right k known a register _ may is acting = absurd is

-- ---- comparisons

ints_compared : (answers : Answers) (o o' : CompareOp) → o' ≡ o → (n m : ℤ)
    → Agree (comparison_of answers o (number n) (number m)) (to (truth (holds o' (int_cmp n m))))
ints_compared answers o o' same n m =
    agree_same (comparison_of answers o (number n) (number m)) (to (truth (holds o' (int_cmp n m))))
    (ap (λ o. to (truth (holds o (int_cmp n m)))) same)

texts_compared : (answers : Answers) (o o' : CompareOp) → o' ≡ o → (s t : List ℕ)
    → Agree (comparison_of answers o (text s) (text t)) (to (truth (holds o' (slice_cmp nat_cmp s t))))
texts_compared answers o o' same s t =
    agree_same (comparison_of answers o (text s) (text t)) (to (truth (holds o' (slice_cmp nat_cmp s t))))
    (ap (λ o. to (truth (holds o (slice_cmp nat_cmp s t)))) same)

same_bytes : (s t : List ℕ) → same_numbers s t ≡ bytes_eq s t
same_bytes [] [] = refl
same_bytes [] (y ∷ ys) = refl
same_bytes (x ∷ xs) [] = refl
same_bytes (x ∷ xs) (y ∷ ys) = ap (λ same. (x == y) && same) (same_bytes xs ys)

same_order : (s t : List ℕ) → same_numbers s t ≡ is_eq (slice_cmp nat_cmp s t)
same_order s t = same_bytes s t ∙ sym (is_eq-slice_cmp s t)

wanted_true : (same : Bool) → beq same true ≡ same
wanted_true true = refl
wanted_true false = refl

wanted_false : (same : Bool) → beq same false ≡ not same
wanted_false true = refl
wanted_false false = refl

equal_holds : (order : Ordering) → beq (is_eq order) true ≡ holds comparison.Equal order
equal_holds Less = refl
equal_holds Equal = refl
equal_holds Greater = refl

unequal_holds : (order : Ordering) → beq (is_eq order) false ≡ holds comparison.NotEqual order
unequal_holds Less = refl
unequal_holds Equal = refl
unequal_holds Greater = refl

-- whether values are equal, by an outcome of a comparison
abbrev asked : Bool → Result Bool Fault → Comes Val
asked wanted outcome = then_to (λ same. truth (beq same wanted)) (of_result outcome)

asked_true : (outcome : Result Bool Fault) → asked true outcome ≡ equality comparison.Equal outcome
asked_true (Ok same) = ap (λ it. to (truth it)) (wanted_true same)
asked_true (Err it) = refl

asked_false : (outcome : Result Bool Fault) → asked false outcome ≡ equality comparison.NotEqual outcome
asked_false (Ok same) = ap (λ it. to (truth it)) (wanted_false same)
asked_false (Err it) = refl

equal_asked : (answers : Answers) (u v : Val)
    → asked true (compared answers.comparable u v) ≡ comparison_of answers comparison.Equal u v
equal_asked answers (number n) (number m) = ap (λ it. to (truth it)) (equal_holds (int_cmp n m))
equal_asked answers (text s) (text t) =
    ap (λ same. to (truth (beq same true))) (same_order s t) ∙ ap (λ it. to (truth it)) (equal_holds (slice_cmp nat_cmp s t))
equal_asked answers u v = asked_true (compared answers.comparable u v)

unequal_asked : (answers : Answers) (u v : Val)
    → asked false (compared answers.comparable u v) ≡ comparison_of answers comparison.NotEqual u v
unequal_asked answers (number n) (number m) = ap (λ it. to (truth it)) (unequal_holds (int_cmp n m))
unequal_asked answers (text s) (text t) =
    ap (λ same. to (truth (beq same false))) (same_order s t)
    ∙ ap (λ it. to (truth it)) (unequal_holds (slice_cmp nat_cmp s t))
unequal_asked answers u v = asked_false (compared answers.comparable u v)

equals_agree : (answers : Answers) (o : CompareOp) (wanted : Bool) → wants_equal o ≡ Some wanted → (u v : Val)
    → Agree (comparison_of answers o u v) (asked wanted (compared answers.comparable u v))
equals_agree answers comparison.Equal wanted is u v =
    agree_same (comparison_of answers comparison.Equal u v) (asked wanted (compared answers.comparable u v))
    (ap (λ wanted. asked wanted (compared answers.comparable u v)) (sym (same_Some true wanted is))
    ∙ equal_asked answers u v)
equals_agree answers comparison.NotEqual wanted is u v =
    agree_same (comparison_of answers comparison.NotEqual u v) (asked wanted (compared answers.comparable u v))
    (ap (λ wanted. asked wanted (compared answers.comparable u v)) (sym (same_Some false wanted is))
    ∙ unequal_asked answers u v)
equals_agree answers _ wanted is u v = absurd (none-some wanted is)

compare_settled : (o : CompareOp) (left right : Operand) → IsAlikeSettled (op.Binary (infix_of.Compare o) left right)
unfolding acts planned_acts
compare_settled o left right k known a register (act.CompareInts o' one other slot) may is acting =
    gives_integers k known a (act.CompareInts o' one other slot) acting register slot is.3 may left right one other is.1
    is.2 (binary k.w.answers (kind_at (plan_site k a) left) (infix_of.Compare o))
    (λ n m. to (truth (holds o' (int_cmp n m)))) (ints_compared k.w.answers o o' is.0)
compare_settled o left right k known a register (act.CompareTexts o' one other slot) may is acting =
    gives_texts k known a (act.CompareTexts o' one other slot) acting register slot is.3 may left right one other is.1
    is.2 (binary k.w.answers (kind_at (plan_site k a) left) (infix_of.Compare o))
    (λ s t. to (truth (holds o' (slice_cmp nat_cmp s t)))) (texts_compared k.w.answers o o' is.0)
compare_settled o left right k known a register (act.Equal wanted one other slot) may is acting =
    gives_two k known a (act.Equal wanted one other slot) acting register slot is.3 may left right one other is.1
    is.2 (binary k.w.answers (kind_at (plan_site k a) left) (infix_of.Compare o))
    (λ u v. asked wanted (compared k.w.answers.comparable u v)) (equals_agree k.w.answers o wanted is.0)
compare_settled o left right k known a register _ may is acting = absurd is

pub binary_alike : (o : Infix) (left right : Operand) → IsAlike (op.Binary o left right)
binary_alike (infix_of.Operate o) left right =
    alike_from (op.Binary (infix_of.Operate o) left right) (operate_settled o left right)
binary_alike (infix_of.Compare o) left right =
    alike_from (op.Binary (infix_of.Compare o) left right) (compare_settled o left right)

-- ---- one operand

not_agrees : (kind : Option IntKind) (v : Val) → Agree (unary_of kind unary.Not v) (planned.not_of v)
not_agrees kind (truth it) = refl
not_agrees kind v = agree_nowhere (unary_of kind unary.Not v)

negated_agrees : (kind : Option IntKind) (it : IntKind) → kind ≡ Some it → (n : ℤ)
    → Agree (unary_of kind unary.Negate (number n)) (to (number (wrapped it (pos 0 -ℤ n))))
negated_agrees kind it is n =
    agree_same (unary_of kind unary.Negate (number n)) (to (number (wrapped it (pos 0 -ℤ n))))
    (ap (λ kind. unary_of kind unary.Negate (number n)) (sym is))

complement_agrees : (kind : Option IntKind) (it : IntKind) → kind ≡ Some it → (n : ℤ)
    → Agree (unary_of kind unary.Complement (number n)) (to (number (wrapped it (negsuc 0 -ℤ n))))
complement_agrees kind it is n =
    agree_same (unary_of kind unary.Complement (number n)) (to (number (wrapped it (negsuc 0 -ℤ n))))
    (ap (λ kind. unary_of kind unary.Complement (number n)) (sym is))

not_settled : (it : Operand) → IsAlikeSettled (op.Unary unary.Not it)
unfolding acts planned_acts
not_settled it k known a register (act.Not arg slot) may is acting =
    gives_one k known a (act.Not arg slot) acting register slot is.1 may it arg is.0
    (unary_of (kind_at (plan_site k a) it) unary.Not) planned.not_of (not_agrees (kind_at (plan_site k a) it))
not_settled it k known a register _ may is acting = absurd is

negate_settled : (it : Operand) → IsAlikeSettled (op.Unary unary.Negate it)
unfolding acts planned_acts
negate_settled it k known a register (act.Negate kind arg slot) may is acting =
    gives_integer k known a (act.Negate kind arg slot) acting register slot is.2 may it arg is.1
    (unary_of (kind_at (plan_site k a) it) unary.Negate) (λ n. to (number (wrapped kind (pos 0 -ℤ n))))
    (negated_agrees (kind_at (plan_site k a) it) kind is.0)
negate_settled it k known a register _ may is acting = absurd is

complement_settled : (it : Operand) → IsAlikeSettled (op.Unary unary.Complement it)
unfolding acts planned_acts
complement_settled it k known a register (act.Complement kind arg slot) may is acting =
    gives_integer k known a (act.Complement kind arg slot) acting register slot is.2 may it arg is.1
    (unary_of (kind_at (plan_site k a) it) unary.Complement) (λ n. to (number (wrapped kind (negsuc 0 -ℤ n))))
    (complement_agrees (kind_at (plan_site k a) it) kind is.0)
complement_settled it k known a register _ may is acting = absurd is

pub unary_alike : (o : UnaryOp) (it : Operand) → IsAlike (op.Unary o it)
unary_alike unary.Not it = alike_from (op.Unary unary.Not it) (not_settled it)
unary_alike unary.Negate it = alike_from (op.Unary unary.Negate it) (negate_settled it)
unary_alike unary.Complement it = alike_from (op.Unary unary.Complement it) (complement_settled it)
