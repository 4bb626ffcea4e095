-- Operators come to values of their types, or to faults.
use Rattle.std.proofs.Common.{◌≡◌, inl, inr, ⊎_elim, ℕ, ℤ, pos, negsuc, ◌-ℤ◌, Bool, true, false, true≢false, not, ◌&&◌, ◌||◌, if◌then◌else◌, List, Option, Some, None, Result, Ok, Err, refl, sym, subst, ap, ◌∙◌, is_some, IsTrue}
use Rattle.std.proofs.lemmas.Bool.{or_cases}
use Rattle.std.specs.Cmp.Lexicographic.{slice_cmp}
use Rattle.std.specs.Option.{option_and_then}
use Rattle.std.specs.Ordering.{nat_cmp, int_cmp}
use Rattle.code_safety.proofs.Forms.{truth_in, text_in, number_in, number_fits}
use Rattle.code_safety.proofs.Machines.{ValueComes}
use Rattle.code_safety.proofs.Operands.{operand_value, integer_value, integer_kind}
use Rattle.code_safety.proofs.Sites.{Reads}
use Rattle.code_safety.proofs.Terms.{there, truth_term, text_term}
use Rattle.code_safety.proofs.Values.{Typing, Fits, IsOf, TruthFits, under_of}
use Rattle.go_base.specs.declared.ids.TypeId.{TypeId}
use Rattle.go_maps.specs.Equality.{compared}
use Rattle.go_type.specs.Kinds.{kind_of}
use Rattle.go_type.specs.Operators.{int_op_of, shift_of}
use Rattle.go_type.specs.Same.{both}
use Rattle.go_type.specs.declared.constants.ConstOp.{ConstOp}
use Rattle.go_type.specs.declared.kinds.IntKind.{IntKind}
use Rattle.go_type.specs.declared.operators.BinaryOp.{BinaryOp}
use Rattle.go_type.specs.declared.operators.BinaryOp.TheVariants as binary_op
use Rattle.go_type.specs.declared.operators.CompareOp.{CompareOp}
use Rattle.go_type.specs.declared.operators.CompareOp.TheVariants as comparison
use Rattle.go_type.specs.declared.operators.UnaryOp.{UnaryOp}
use Rattle.go_type.specs.declared.operators.UnaryOp.TheVariants as unary_op
use Rattle.go_type.specs.declared.term.Basic.TheVariants as basic
use Rattle.go_type.specs.declared.term.TypeTerm.TheVariants as term
use Rattle.go_value.specs.Ints.{operated, shift_value, wrapped}
use Rattle.go_value.specs.Values.{Val, truth, number, text}
use Rattle.go_value.specs.declared.faults.Fault.{Fault}
use Rattle.ssa_ir.specs.declared.code.Code.{Code}
use Rattle.ssa_ir.specs.declared.operands.Operand.{Operand}
use Rattle.ssa_ir.specs.declared.ops.Infix.{Infix}
use Rattle.ssa_ir.specs.declared.ops.Infix.TheVariants as infix_of
use Rattle.ssa_ir.specs.declared.ops.Op.TheVariants as op
use Rattle.ssa_mean.specs.Answers.{Answers}
use Rattle.ssa_mean.specs.Arithmetic.{binary, operation, on_integers, shifted_or_operated, comparison_of, equality, unary_of, negated, negated_in, holds}
use Rattle.ssa_mean.specs.Comes.{Comes, of_result, then_to, where_some}
use Rattle.ssa_mean.specs.Step.{Site, value, with_one, with_two, kind_at}
use Rattle.ssa_typed.specs.Forms.{FitsGiving, fits_giving, ComparesOf, ComparesAs, operates, is_shift, is_taken, is_equality, is_same_address, has_unary, common_type}
use Rattle.ssa_typed.specs.Operands.{known, is_operand, is_integer_operand}
use Rattle.ssa_typed.specs.declared.known.Known.{Known}
use Rattle.ssa_typed.specs.declared.known.Known.TheVariants as known_as
use Rattle.type_shapes.specs.Shapes.{is_text, is_truth}

-- what a result gives, if it gives a value
pub result_comes : {A : Type 0} (c : Code) (t : Typing) (of : TypeId) (f : A → Val) (it : Result A Fault)
    → ((x : A) → it ≡ Ok x → IsOf c t (f x) of) → ValueComes c t of (then_to f (of_result it))
result_comes c t of f (Ok x) each = each x refl
result_comes c t of f (Err fault) each = tt

pub two_are : {A : Type 0} (s : Site) (first second : Operand) (next : Val → Val → Comes A) (a b : Val) → value s first ≡ Some a
    → value s second ≡ Some b → with_two s first second next ≡ next a b
two_are s first second next a b is are =
    ap (where_some (λ a. where_some (λ b. next a b) (value s second))) is ∙ ap (where_some (λ b. next a b)) are

-- ---- integers and strings

is_operator : (o : BinaryOp) → (is_some (shift_of o) || is_some (int_op_of o)) ≡ true
is_operator binary_op.Add = refl
is_operator binary_op.Sub = refl
is_operator binary_op.Mul = refl
is_operator binary_op.Div = refl
is_operator binary_op.Rem = refl
is_operator binary_op.And = refl
is_operator binary_op.Or = refl
is_operator binary_op.Xor = refl
is_operator binary_op.AndNot = refl
is_operator binary_op.ShiftLeft = refl
is_operator binary_op.ShiftRight = refl

module _ (c : Code) (t : Typing) (of : TypeId) where
  integers_come : is_some (kind_of c.types of) ≡ true → (kind : IntKind) (left : Option Bool) (o : Option ConstOp) (a b : ℤ)
      → (is_some left || is_some o) ≡ true → ValueComes c t of (shifted_or_operated kind left o a b)
  integers_come is kind (Some left) o a b h = result_comes c t of number (shift_value kind left a b) (λ n e. number_fits c t n (under_of c of) is)
  integers_come is kind None (Some o) a b h = result_comes c t of number (operated kind o a b) (λ n e. number_fits c t n (under_of c of) is)
  integers_come is kind None None a b h = absurd (true≢false (sym h))

  -- an operator on two integers
  numbers_come : is_some (kind_of c.types of) ≡ true → (kind : Option IntKind) → kind ≡ kind_of c.types of → (o : BinaryOp) (a b : Val) (n m : ℤ)
      → a ≡ number n → b ≡ number m → ValueComes c t of (operation kind o a b)
  numbers_come is kind same o a b n m first second =
      let found = there (kind_of c.types of) is in
      subst (λ a. ValueComes c t of (operation kind o a b)) (sym first)
      (subst (λ b. ValueComes c t of (operation kind o (number n) b)) (sym second)
      (subst (λ kind. ValueComes c t of (on_integers kind o n m)) (sym (same ∙ found.1))
      (integers_come is found.0 (shift_of o) (int_op_of o) n m (is_operator o))))

  texts_come : under_of c of ≡ Some (term.Basic basic.Text) → (kind : Option IntKind) (a b : Val) → IsOf c t a of → IsOf c t b of
      → ValueComes c t of (operation kind binary_op.Add a b)
  texts_come is kind a b first second =
      let x = text_in c t a (subst (λ term. Fits c t a term) is first) in
      let y = text_in c t b (subst (λ term. Fits c t b term) is second) in
      subst (λ a. ValueComes c t of (operation kind binary_op.Add a b)) (sym x.1)
      (subst (λ b. ValueComes c t of (operation kind binary_op.Add (text x.0) b)) (sym y.1)
      (result_comes c t of text _ (λ bytes e. subst (λ term. Fits c t (text bytes) term) (sym is) tt)))

  -- an operator, but a shift, on two values of one type
  taken_comes : (o : BinaryOp) → is_taken c.types o of ≡ true → (kind : Option IntKind)
      → (is_some (kind_of c.types of) ≡ true → kind ≡ kind_of c.types of) → (a b : Val) → IsOf c t a of → IsOf c t b of
      → ValueComes c t of (operation kind o a b)
  taken_comes binary_op.Add h kind same a b first second =
      ⊎_elim (λ is. both_numbers binary_op.Add kind (same is) is a b first second)
      (λ is. texts_come (text_term (under_of c of) is) kind a b first second)
      (or_cases (is_some (kind_of c.types of)) (is_text (under_of c of)) h)
    where
      both_numbers : (o : BinaryOp) (kind : Option IntKind) → kind ≡ kind_of c.types of → is_some (kind_of c.types of) ≡ true → (a b : Val) → IsOf c t a of → IsOf c t b of
          → ValueComes c t of (operation kind o a b)
      both_numbers o kind same is a b first second =
          let n = number_in c t a (under_of c of) is first in
          let m = number_in c t b (under_of c of) is second in
          numbers_come is kind same o a b n.0 m.0 n.1 m.1
  taken_comes o h kind same a b first second =
      let n = number_in c t a (under_of c of) h first in
      let m = number_in c t b (under_of c of) h second in
      numbers_come h kind (same h) o a b n.0 m.0 n.1 m.1

  -- ---- comparisons

  truth_fits : is_truth (under_of c of) ≡ true → (b : Bool) → IsOf c t (truth b) of
  truth_fits h b = subst (λ term. TruthFits term) (sym (truth_term (under_of c of) h)) tt

  equality_comes : is_truth (under_of c of) ≡ true → (o : CompareOp) → is_equality o ≡ true → (it : Result Bool Fault)
      → ValueComes c t of (equality o it)
  equality_comes fits comparison.Equal h it = result_comes c t of truth it (λ b e. truth_fits fits b)
  equality_comes fits comparison.NotEqual h it = result_comes c t of (λ same. truth (not same)) it (λ b e. truth_fits fits (not b))
  equality_comes fits _ h it = absurd (true≢false (sym h))

  -- values are equal or not
  equals_come : is_truth (under_of c of) ≡ true → (answers : Answers) (o : CompareOp) → is_equality o ≡ true → (a b : Val)
      → ValueComes c t of (comparison_of answers o a b)
  equals_come fits answers o h (number a) (number b) = truth_fits fits (holds o (int_cmp a b))
  equals_come fits answers o h (text a) (text b) = truth_fits fits (holds o (slice_cmp nat_cmp a b))
  equals_come fits answers o h a b = equality_comes fits o h (compared answers.comparable a b)

  numbers_compare : is_truth (under_of c of) ≡ true → (answers : Answers) (o : CompareOp) (a b : Val) (n m : ℤ) → a ≡ number n → b ≡ number m
      → ValueComes c t of (comparison_of answers o a b)
  numbers_compare fits answers o a b n m first second =
      subst (λ a. ValueComes c t of (comparison_of answers o a b)) (sym first)
      (subst (λ b. ValueComes c t of (comparison_of answers o (number n) b)) (sym second) (truth_fits fits (holds o (int_cmp n m))))

  texts_compare : is_truth (under_of c of) ≡ true → (answers : Answers) (o : CompareOp) (a b : Val) (x y : List ℕ) → a ≡ text x → b ≡ text y
      → ValueComes c t of (comparison_of answers o a b)
  texts_compare fits answers o a b x y first second =
      subst (λ a. ValueComes c t of (comparison_of answers o a b)) (sym first)
      (subst (λ b. ValueComes c t of (comparison_of answers o (text x) b)) (sym second) (truth_fits fits (holds o (slice_cmp nat_cmp x y))))

  -- integers and strings are ordered
  ordered_come : is_truth (under_of c of) ≡ true → (answers : Answers) (o : CompareOp) (side : TypeId)
      → IsTrue (is_some (kind_of c.types side) || is_text (under_of c side)) → (a b : Val) → IsOf c t a side → IsOf c t b side
      → ValueComes c t of (comparison_of answers o a b)
  ordered_come fits answers o side h a b first second =
      ⊎_elim
      (λ is.
      let n = number_in c t a (under_of c side) is first in
      let m = number_in c t b (under_of c side) is second in
      numbers_compare fits answers o a b n.0 m.0 n.1 m.1)
      (λ is.
      let x = text_in c t a (subst (λ term. Fits c t a term) (text_term (under_of c side) is) first) in
      let y = text_in c t b (subst (λ term. Fits c t b term) (text_term (under_of c side) is) second) in
      texts_compare fits answers o a b x.0 y.0 x.1 y.1)
      (or_cases (is_some (kind_of c.types side)) (is_text (under_of c side)) h)

  sides_come : is_truth (under_of c of) ≡ true → (answers : Answers) (o : CompareOp) (left right : Operand) (side : TypeId)
      → ComparesAs c.types o left right side → (a b : Val) → IsOf c t a side → IsOf c t b side
      → ValueComes c t of (comparison_of answers o a b)
  sides_come fits answers comparison.Equal left right side h a b first second = equals_come fits answers comparison.Equal refl a b
  sides_come fits answers comparison.NotEqual left right side h a b first second = equals_come fits answers comparison.NotEqual refl a b
  sides_come fits answers o left right side h a b first second = ordered_come fits answers o side h a b first second

-- both are addresses
addresses_are : (a b : Option Known) → is_same_address a b ≡ true → (k l : Known) × ((a ≡ Some k) × (b ≡ Some l))
addresses_are (Some (known_as.Address a)) (Some (known_as.Address b)) h = (known_as.Address a, known_as.Address b, (refl, refl))
addresses_are _ _ h = absurd (true≢false (sym h))

-- ---- instructions

operate_comes : (t : Typing) (s : Site) (o : BinaryOp) (left right : Operand) → Reads t s (op.Binary (infix_of.Operate o) left right)
    → (of : TypeId) → operates s.code s.function o left right of ≡ true
    → ValueComes s.code t of (with_two s left right (binary s.answers (kind_at s left) (infix_of.Operate o)))
operate_comes t s o left right reads of h = by (is_shift o) refl h
  where
    goes : (a b : Val) → value s left ≡ Some a → value s right ≡ Some b → ValueComes s.code t of (operation (kind_at s left) o a b)
        → ValueComes s.code t of (with_two s left right (binary s.answers (kind_at s left) (infix_of.Operate o)))
    goes a b is are comes =
        subst (ValueComes s.code t of)
        (sym (two_are s left right (binary s.answers (kind_at s left) (infix_of.Operate o)) a b is are)) comes

    same_kind : is_operand s.code s.function left of ≡ true → is_some (kind_of s.code.types of) ≡ true
        → kind_at s left ≡ kind_of s.code.types of
    same_kind h is = ap (option_and_then (kind_of s.code.types)) (integer_kind s.code reads.safe.held s.function left of h is)

    by : (b : Bool) → is_shift o ≡ b
        → (if b then is_operand s.code s.function left of && (is_some (kind_of s.code.types of) && is_integer_operand s.code s.function right)
        else is_taken s.code.types o of && (is_operand s.code s.function left of && is_operand s.code s.function right of)) ≡ true
        → ValueComes s.code t of (with_two s left right (binary s.answers (kind_at s left) (infix_of.Operate o)))
    by true e h =
        let k = both (is_operand s.code s.function left of) _ h in
        let l = both (is_some (kind_of s.code.types of)) (is_integer_operand s.code s.function right) k.1 in
        let a = operand_value t s reads.safe.held left (reads.values left (inl refl)) of k.0 in
        let n = number_in s.code t a.0 (under_of s.code of) l.0 a.1.1 in
        let m = integer_value t s right (reads.values right (inr (inl refl))) l.1 in
        goes a.0 (number m.0) a.1.0 m.1
        (numbers_come s.code t of l.0 (kind_at s left) (same_kind k.0 l.0) o a.0 (number m.0) n.0 m.0 n.1 refl)
    by false e h =
        let k = both (is_taken s.code.types o of) _ h in
        let l = both (is_operand s.code s.function left of) (is_operand s.code s.function right of) k.1 in
        let a = operand_value t s reads.safe.held left (reads.values left (inl refl)) of l.0 in
        let b = operand_value t s reads.safe.held right (reads.values right (inr (inl refl))) of l.1 in
        goes a.0 b.0 a.1.0 b.1.0 (taken_comes s.code t of o k.0 (kind_at s left) (same_kind l.0) a.0 b.0 a.1.1 b.1.1)

compare_comes : (t : Typing) (s : Site) (o : CompareOp) (left right : Operand) → Reads t s (op.Binary (infix_of.Compare o) left right)
    → (of : TypeId) → is_truth (under_of s.code of) ≡ true → (side : Option TypeId) → ComparesOf s.code s.function o left right side
    → ValueComes s.code t of (with_two s left right (binary s.answers (kind_at s left) (infix_of.Compare o)))
compare_comes t s o left right reads of fits None h =
    let k = both (is_equality o) (is_same_address (known s.code s.function left) (known s.code s.function right)) h in
    let are = addresses_are (known s.code s.function left) (known s.code s.function right) k.1 in
    let a = reads.values left (inl refl) are.0 are.2.0 in
    let b = reads.values right (inr (inl refl)) are.1 are.2.1 in
    subst (ValueComes s.code t of)
    (sym (two_are s left right (binary s.answers (kind_at s left) (infix_of.Compare o)) a.it b.it a.is b.is))
    (equals_come s.code t of fits s.answers o k.0 a.it b.it)
compare_comes t s o left right reads of fits (Some side) h =
    let k = both (is_operand s.code s.function left side) (is_operand s.code s.function right side) h.0 in
    let a = operand_value t s reads.safe.held left (reads.values left (inl refl)) side k.0 in
    let b = operand_value t s reads.safe.held right (reads.values right (inr (inl refl))) side k.1 in
    subst (ValueComes s.code t of)
    (sym (two_are s left right (binary s.answers (kind_at s left) (infix_of.Compare o)) a.0 b.0 a.1.0 b.1.0))
    (sides_come s.code t of fits s.answers o left right side h.1 a.0 b.0 a.1.1 b.1.1)

pub binary_comes : (t : Typing) (s : Site) (o : Infix) (left right : Operand) → Reads t s (op.Binary o left right) → (of : TypeId)
    → FitsGiving s.code s.function (op.Binary o left right) of
    → ValueComes s.code t of (with_two s left right (binary s.answers (kind_at s left) o))
unfolding FitsGiving
binary_comes t s (infix_of.Operate o) left right reads of typed = operate_comes t s o left right reads of typed
binary_comes t s (infix_of.Compare o) left right reads of typed =
    compare_comes t s o left right reads of typed.0 (common_type (known s.code s.function left) (known s.code s.function right)) typed.1

-- ---- one operand

module _ (c : Code) (t : Typing) (of : TypeId) where
  negated_comes : (o : UnaryOp) → is_some (kind_of c.types of) ≡ true → (kind : Option IntKind) → kind ≡ kind_of c.types of → (n : ℤ)
      → ((k : IntKind) → ValueComes c t of (negated o k n)) → ValueComes c t of (unary_of kind o (number n))
  negated_comes o is kind same n each =
      let found = there (kind_of c.types of) is in
      subst (λ kind. ValueComes c t of (negated_in kind o n)) (sym (same ∙ found.1)) (each found.0)

  unary_fits : (o : UnaryOp) → has_unary c.types o of ≡ true → (kind : Option IntKind)
      → (is_some (kind_of c.types of) ≡ true → kind ≡ kind_of c.types of) → (a : Val) → IsOf c t a of
      → ValueComes c t of (unary_of kind o a)
  unary_fits unary_op.Not h kind same a fits =
      let b = truth_in c t a (subst (λ term. Fits c t a term) (truth_term (under_of c of) h) fits) in
      subst (λ a. ValueComes c t of (unary_of kind unary_op.Not a)) (sym b.1) (truth_fits c t of h (not b.0))
  unary_fits unary_op.Negate h kind same a fits =
      let n = number_in c t a (under_of c of) h fits in
      subst (λ a. ValueComes c t of (unary_of kind unary_op.Negate a)) (sym n.1)
      (negated_comes unary_op.Negate h kind (same h) n.0 (λ k. number_fits c t (wrapped k (pos 0 -ℤ n.0)) (under_of c of) h))
  unary_fits unary_op.Complement h kind same a fits =
      let n = number_in c t a (under_of c of) h fits in
      subst (λ a. ValueComes c t of (unary_of kind unary_op.Complement a)) (sym n.1)
      (negated_comes unary_op.Complement h kind (same h) n.0 (λ k. number_fits c t (wrapped k (negsuc 0 -ℤ n.0)) (under_of c of) h))

pub unary_comes : (t : Typing) (s : Site) (o : UnaryOp) (it : Operand) → Reads t s (op.Unary o it) → (of : TypeId)
    → FitsGiving s.code s.function (op.Unary o it) of → ValueComes s.code t of (with_one s it (unary_of (kind_at s it) o))
unfolding FitsGiving fits_giving
unary_comes t s o it reads of typed =
    let k = both (is_operand s.code s.function it of) (has_unary s.code.types o of) typed in
    let a = operand_value t s reads.safe.held it (reads.values it (inl refl)) of k.0 in
    subst (ValueComes s.code t of) (sym (ap (where_some (unary_of (kind_at s it) o)) a.1.0))
    (unary_fits s.code t of o k.1 (kind_at s it)
    (λ is. ap (option_and_then (kind_of s.code.types)) (integer_kind s.code reads.safe.held s.function it of k.0 is)) a.0 a.1.1)
