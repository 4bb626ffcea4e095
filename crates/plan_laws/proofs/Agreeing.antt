-- Operations on the values of operands agree, where they agree on all values that the operands may have.
use Rattle.std.proofs.Common.{ℕ, ◌≡◌, ℤ, true, List, [], ◌∷◌, Option, Some, None, refl, sym, ap, subst, ◌∙◌}
use Rattle.code_plan.specs.Operands.{IsArg, IsArgWhere, IsTo}
use Rattle.code_plan.specs.Registers.{may_give}
use Rattle.code_plan.specs.declared.steps.Arg.{Arg}
use Rattle.code_plan.specs.declared.steps.Arg.TheVariants as arg
use Rattle.code_plan.specs.declared.steps.Step.{Step}
use Rattle.go_value.specs.Values.{Val, number, text}
use Rattle.plan_laws.proofs.Acting.{Acting, IsActing, Agree, site_of, plan_site}
use Rattle.plan_laws.proofs.Alike.{Known, IsKnown, Follows}
use Rattle.plan_laws.proofs.Giving.{plan_at, settled, gives_alike}
use Rattle.plan_laws.proofs.Reading.{one_value}
use Rattle.plan_mean.specs.Operands.{look, on_integer, with_integer, with_bound}
use Rattle.plan_mean.specs.State as plans
use Rattle.plan_mean.specs.Step as planned
use Rattle.ssa_ir.specs.declared.operands.Operand.{Operand}
use Rattle.ssa_ir.specs.declared.operands.Operand.TheVariants as operand
use Rattle.ssa_ir.specs.declared.ops.Op.TheVariants as op
use Rattle.ssa_mean.specs.Comes.{Comes, to, faults, nowhere, where_some}
use Rattle.ssa_mean.specs.Operands.{value_of}
use Rattle.ssa_mean.specs.Step as steps

-- ---- operands have one value in the plan's machine, as it was settled

pub one_read : (k : Known) (a : Acting) (step : Step) → IsActing k a step → (it : Operand) (arg : Arg)
    → IsArg (plan_site k a) it arg → look (plan_at a) arg ≡ value_of k.code a.frame it
one_read k a step acting it arg is =
    ap (λ m. look m arg) (sym (settled k a step acting)) ∙ one_value k a step acting it arg is

-- ---- where one of both comes nowhere, all is well

pub agree_nowhere : {A : Type 0} (x : Comes A) → Agree x nowhere
agree_nowhere (to it) = tt
agree_nowhere (faults it) = tt
agree_nowhere nowhere = tt

pub nowhere_agrees : {A : Type 0} (y : Comes A) → Agree nowhere y
nowhere_agrees (to it) = tt
nowhere_agrees (faults it) = tt
nowhere_agrees nowhere = tt

pub agree_same : {A : Type 0} (x y : Comes A) → y ≡ x → Agree x y
agree_same x y e = subst (Agree x) (sym e) (itself x)
  where
    itself : {A : Type 0} (it : Comes A) → Agree it it
    itself (to it) = refl
    itself (faults it) = refl
    itself nowhere = tt

-- ---- one operand

on_one : {A : Type 0} (f g : Val → Comes A) → ((v : Val) → Agree (f v) (g v)) → (x : Option Val)
    → Agree (where_some f x) (where_some g x)
on_one f g agree None = tt
on_one f g agree (Some v) = agree v

pub one_agrees : {A : Type 0} (f g : Val → Comes A) → ((v : Val) → Agree (f v) (g v)) → (x y : Option Val) → y ≡ x
    → Agree (where_some f x) (where_some g y)
one_agrees f g agree x y e = subst (λ z. Agree (where_some f x) (where_some g z)) (sym e) (on_one f g agree x)

on_number : {A : Type 0} (f : Val → Comes A) (g : ℤ → Comes A) → ((n : ℤ) → Agree (f (number n)) (g n)) → (v : Val)
    → Agree (f v) (on_integer g v)
on_number f g agree (number n) = agree n
on_number f g agree v = agree_nowhere (f v)

pub integer_agrees : {A : Type 0} (f : Val → Comes A) (g : ℤ → Comes A) → ((n : ℤ) → Agree (f (number n)) (g n))
    → (x y : Option Val) → y ≡ x → Agree (where_some f x) (where_some (on_integer g) y)
integer_agrees f g agree x y e = one_agrees f (on_integer g) (on_number f g agree) x y e

-- ---- two operands

pub two_agree : {A : Type 0} (f g : Val → Val → Comes A) → ((u v : Val) → Agree (f u v) (g u v))
    → (x y x' y' : Option Val) → x' ≡ x → y' ≡ y
    → Agree (where_some (λ u. where_some (λ v. f u v) y) x) (where_some (λ u. where_some (λ v. g u v) y') x')
two_agree f g agree x y x' y' e d =
    one_agrees (λ u. where_some (λ v. f u v) y) (λ u. where_some (λ v. g u v) y')
    (λ u. one_agrees (f u) (g u) (agree u) y y' d) x x' e

pub integers_agree : {A : Type 0} (f : Val → Val → Comes A) (g : ℤ → ℤ → Comes A)
    → ((n m : ℤ) → Agree (f (number n) (number m)) (g n m)) → (x y x' y' : Option Val) → x' ≡ x → y' ≡ y
    → Agree (where_some (λ u. where_some (λ v. f u v) y) x)
    (where_some (on_integer (λ n. where_some (on_integer (λ m. g n m)) y')) x')
integers_agree f g agree x y x' y' e d =
    integer_agrees (λ u. where_some (λ v. f u v) y) (λ n. where_some (on_integer (λ m. g n m)) y')
    (λ n. integer_agrees (f (number n)) (g n) (agree n) y y' d) x x' e

-- two texts, as the plan asks for them
texts_of : {A : Type 0} → plans.Machine → (List ℕ → List ℕ → Comes A) → Val → Val → Comes A
texts_of m g u v =
    planned.with_texts (plans.with_slots ((Some u ∷ Some v ∷ []) ∷ []) m) (arg.Slot 0) (arg.Slot 1) g

on_texts : {A : Type 0} (m : plans.Machine) (f : Val → Val → Comes A) (g : List ℕ → List ℕ → Comes A)
    → ((s t : List ℕ) → Agree (f (text s) (text t)) (g s t)) → (u v : Val) → Agree (f u v) (texts_of m g u v)
unfolding texts_of
on_texts m f g agree (text s) (text t) = agree s t
on_texts m f g agree u v = agree_nowhere (f u v)

pub texts_agree : {A : Type 0} (m : plans.Machine) (f : Val → Val → Comes A) (g : List ℕ → List ℕ → Comes A)
    → ((s t : List ℕ) → Agree (f (text s) (text t)) (g s t)) → (x y : Option Val) (one other : Arg)
    → look m one ≡ x → look m other ≡ y
    → Agree (where_some (λ u. where_some (λ v. f u v) y) x) (planned.with_texts m one other g)
unfolding texts_of
texts_agree m f g agree x y one other e d =
    two_agree f (texts_of m g) (on_texts m f g agree) x y (look m one) (look m other) e d

-- ---- one integer, as both ask for it

integer_of : {A : Type 0} → steps.Site → (ℤ → Comes A) → Val → Comes A
integer_of s next v =
    steps.with_integer (record s { frame = record (s.frame) { parameters = v ∷ [] } }) (operand.Param 0) next

pub both_integers : {A : Type 0} (k : Known) (a : Acting) (step : Step) → IsActing k a step → (it : Operand) (arg : Arg)
    → IsArg (plan_site k a) it arg → (f g : ℤ → Comes A) → ((n : ℤ) → Agree (f n) (g n))
    → Agree (steps.with_integer (site_of k a) it f) (with_integer (plan_at a) arg g)
unfolding integer_of
both_integers k a step acting it arg is f g agree =
    integer_agrees (integer_of (site_of k a) f) g agree (value_of k.code a.frame it) (look (plan_at a) arg)
    (one_read k a step acting it arg is)

-- a place of a slice expression, where it is not left out
pub both_bounds : {A : Type 0} (k : Known) (a : Acting) (step : Step) → IsActing k a step → (it : Option Operand)
    (arg : Option Arg) → IsArgWhere (plan_site k a) it arg → (f g : Option ℤ → Comes A)
    → ((n : Option ℤ) → Agree (f n) (g n))
    → Agree (steps.with_bound (site_of k a) it f) (with_bound (plan_at a) arg g)
both_bounds k a step acting None None is f g agree = agree None
both_bounds k a step acting (Some it) (Some arg) is f g agree =
    both_integers k a step acting it arg is (λ n. f (Some n)) (λ n. g (Some n)) (λ n. agree (Some n))
both_bounds k a step acting _ _ is f g agree = absurd is

-- ---- what holds of all that is made of operands

pub holds_of_one : {A : Type 0} (P : Comes A → Type 0) (f : Val → Comes A) → P nowhere → ((v : Val) → P (f v))
    → (x : Option Val) → P (where_some f x)
holds_of_one P f none each None = none
holds_of_one P f none each (Some v) = each v

pub holds_of_two : {A : Type 0} (P : Comes A → Type 0) (f : Val → Val → Comes A) → P nowhere
    → ((u v : Val) → P (f u v)) → (x y : Option Val) → P (where_some (λ u. where_some (λ v. f u v) y) x)
holds_of_two P f none each None y = none
holds_of_two P f none each (Some u) None = none
holds_of_two P f none each (Some u) (Some v) = each u v

-- ---- what is made of the operands is given

pub gives_one : (k : Known) → IsKnown k → (a : Acting) (step : Step) → IsActing k a step → (register : Option ℕ)
    (slot : ℕ) → IsTo (plan_site k a) register slot
    → may_give (k.marks a.frame.function.number) op.Tick register ≡ true
    → (it : Operand) (arg : Arg) → IsArg (plan_site k a) it arg
    → (f g : Val → Comes Val) → ((v : Val) → Agree (f v) (g v))
    → Follows k (steps.gives_value (site_of k a) register (where_some f (value_of k.code a.frame it)))
    (planned.gives k.w (plan_at a) slot (where_some g (look (plan_at a) arg)))
gives_one k known a step acting register slot same may it arg is f g agree =
    gives_alike k known a step acting register slot same may (where_some f (value_of k.code a.frame it))
    (where_some g (look (plan_at a) arg))
    (one_agrees f g agree (value_of k.code a.frame it) (look (plan_at a) arg) (one_read k a step acting it arg is))

pub gives_integer : (k : Known) → IsKnown k → (a : Acting) (step : Step) → IsActing k a step → (register : Option ℕ)
    (slot : ℕ) → IsTo (plan_site k a) register slot
    → may_give (k.marks a.frame.function.number) op.Tick register ≡ true
    → (it : Operand) (arg : Arg) → IsArg (plan_site k a) it arg
    → (f : Val → Comes Val) (g : ℤ → Comes Val) → ((n : ℤ) → Agree (f (number n)) (g n))
    → Follows k (steps.gives_value (site_of k a) register (where_some f (value_of k.code a.frame it)))
    (planned.gives k.w (plan_at a) slot (with_integer (plan_at a) arg g))
gives_integer k known a step acting register slot same may it arg is f g agree =
    gives_alike k known a step acting register slot same may (where_some f (value_of k.code a.frame it))
    (with_integer (plan_at a) arg g)
    (integer_agrees f g agree (value_of k.code a.frame it) (look (plan_at a) arg) (one_read k a step acting it arg is))

pub gives_two : (k : Known) → IsKnown k → (a : Acting) (step : Step) → IsActing k a step → (register : Option ℕ)
    (slot : ℕ) → IsTo (plan_site k a) register slot
    → may_give (k.marks a.frame.function.number) op.Tick register ≡ true
    → (it other : Operand) (arg arg' : Arg) → IsArg (plan_site k a) it arg → IsArg (plan_site k a) other arg'
    → (f g : Val → Val → Comes Val) → ((u v : Val) → Agree (f u v) (g u v))
    → Follows k
    (steps.gives_value (site_of k a) register
    (where_some (λ u. where_some (λ v. f u v) (value_of k.code a.frame other)) (value_of k.code a.frame it)))
    (planned.gives k.w (plan_at a) slot
    (where_some (λ u. where_some (λ v. g u v) (look (plan_at a) arg')) (look (plan_at a) arg)))
gives_two k known a step acting register slot same may it other arg arg' is is' f g agree =
    gives_alike k known a step acting register slot same may
    (where_some (λ u. where_some (λ v. f u v) (value_of k.code a.frame other)) (value_of k.code a.frame it))
    (where_some (λ u. where_some (λ v. g u v) (look (plan_at a) arg')) (look (plan_at a) arg))
    (two_agree f g agree (value_of k.code a.frame it) (value_of k.code a.frame other) (look (plan_at a) arg)
    (look (plan_at a) arg') (one_read k a step acting it arg is) (one_read k a step acting other arg' is'))

pub gives_integers : (k : Known) → IsKnown k → (a : Acting) (step : Step) → IsActing k a step → (register : Option ℕ)
    (slot : ℕ) → IsTo (plan_site k a) register slot
    → may_give (k.marks a.frame.function.number) op.Tick register ≡ true
    → (it other : Operand) (arg arg' : Arg) → IsArg (plan_site k a) it arg → IsArg (plan_site k a) other arg'
    → (f : Val → Val → Comes Val) (g : ℤ → ℤ → Comes Val) → ((n m : ℤ) → Agree (f (number n) (number m)) (g n m))
    → Follows k
    (steps.gives_value (site_of k a) register
    (where_some (λ u. where_some (λ v. f u v) (value_of k.code a.frame other)) (value_of k.code a.frame it)))
    (planned.gives k.w (plan_at a) slot (planned.with_integers (plan_at a) arg arg' g))
gives_integers k known a step acting register slot same may it other arg arg' is is' f g agree =
    gives_alike k known a step acting register slot same may
    (where_some (λ u. where_some (λ v. f u v) (value_of k.code a.frame other)) (value_of k.code a.frame it))
    (planned.with_integers (plan_at a) arg arg' g)
    (integers_agree f g agree (value_of k.code a.frame it) (value_of k.code a.frame other) (look (plan_at a) arg)
    (look (plan_at a) arg') (one_read k a step acting it arg is) (one_read k a step acting other arg' is'))

pub gives_texts : (k : Known) → IsKnown k → (a : Acting) (step : Step) → IsActing k a step → (register : Option ℕ)
    (slot : ℕ) → IsTo (plan_site k a) register slot
    → may_give (k.marks a.frame.function.number) op.Tick register ≡ true
    → (it other : Operand) (arg arg' : Arg) → IsArg (plan_site k a) it arg → IsArg (plan_site k a) other arg'
    → (f : Val → Val → Comes Val) (g : List ℕ → List ℕ → Comes Val)
    → ((s t : List ℕ) → Agree (f (text s) (text t)) (g s t))
    → Follows k
    (steps.gives_value (site_of k a) register
    (where_some (λ u. where_some (λ v. f u v) (value_of k.code a.frame other)) (value_of k.code a.frame it)))
    (planned.gives k.w (plan_at a) slot (planned.with_texts (plan_at a) arg arg' g))
gives_texts k known a step acting register slot same may it other arg arg' is is' f g agree =
    gives_alike k known a step acting register slot same may
    (where_some (λ u. where_some (λ v. f u v) (value_of k.code a.frame other)) (value_of k.code a.frame it))
    (planned.with_texts (plan_at a) arg arg' g)
    (texts_agree (plan_at a) f g agree (value_of k.code a.frame it) (value_of k.code a.frame other) arg arg'
    (one_read k a step acting it arg is) (one_read k a step acting other arg' is'))
