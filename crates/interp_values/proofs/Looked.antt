-- What the definition of runs makes of operands that a machine has looked at.
use Rattle.std.proofs.Common.{◌≡◌, ◌∙◌, ap, List, ℤ, Some, sym}
use Rattle.code_plan.specs.declared.steps.Arg.{Arg}
use Rattle.go_value.specs.Values.{Field, Val, number, parts, parts_of, value_of}
use Rattle.go_value.specs.declared.values.Value.{Value}
use Rattle.go_value.specs.declared.values.Value.TheVariants as values
use Rattle.interp_state.specs.Machines.{machine_of}
use Rattle.interp_state.specs.States.{looked}
use Rattle.interp_state.specs.declared.machine.Machine.{Machine}
use Rattle.plan_mean.specs.Operands.{on_integer, with_integer, with_one, with_two}
use Rattle.plan_mean.specs.Step.{with_integers}
use Rattle.ssa_mean.specs.Comes.{Comes, where_some}

pub one_is : {A : Type 0} (m : Machine) (arg : Arg) (it : Val) (next : Val → Comes A) → looked m arg ≡ Some it
    → with_one (machine_of m) arg next ≡ next it
one_is m arg it next is = ap (where_some next) is

pub two_are : {A : Type 0} (m : Machine) (first second : Arg) (a b : Val) (next : Val → Val → Comes A)
    → looked m first ≡ Some a → looked m second ≡ Some b → with_two (machine_of m) first second next ≡ next a b
two_are m first second a b next one two =
    one_is m first a (λ a. with_one (machine_of m) second (λ b. next a b)) one ∙ one_is m second b (λ b. next a b) two

pub integer_is : {A : Type 0} (m : Machine) (arg : Arg) (n : ℤ) (next : ℤ → Comes A) → looked m arg ≡ Some (number n)
    → with_integer (machine_of m) arg next ≡ next n
integer_is m arg n next is = one_is m arg (number n) (on_integer next) is

pub integers_are : {A : Type 0} (m : Machine) (first second : Arg) (a b : ℤ) (next : ℤ → ℤ → Comes A)
    → looked m first ≡ Some (number a) → looked m second ≡ Some (number b)
    → with_integers (machine_of m) first second next ≡ next a b
integers_are m first second a b next one two =
    integer_is m first a (λ a. with_integer (machine_of m) second (λ b. next a b)) one
    ∙ integer_is m second b (λ b. next a b) two

-- an operand that is a value of parts
pub parts_are : (m : Machine) (arg : Arg) (value : Value) (it : _) (items : List Field)
    → looked m arg ≡ Some (value_of value) → value ≡ values.Parts it → items ≡ it.value.items
    → looked m arg ≡ Some (parts (parts_of items))
parts_are m arg value it items is parts_of_it same =
    is ∙ ap (λ (value : Value). Some (value_of value)) parts_of_it ∙ ap (λ (items : List Field). Some (parts (parts_of items))) (sym same)
