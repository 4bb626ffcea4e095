-- What operations on two integers come to.
use Rattle.std.proofs.Common.{◌≡◌, ◌∙◌, ap, Bool, Some, Result, ℤ}
use Rattle.std.specs.Ordering.{int_cmp}
use Rattle.code_plan.specs.declared.steps.Arg.{Arg}
use Rattle.go_type.specs.declared.constants.ConstOp.{ConstOp}
use Rattle.go_type.specs.declared.kinds.IntKind.{IntKind}
use Rattle.go_type.specs.declared.operators.CompareOp.{CompareOp}
use Rattle.go_value.specs.Ints.{operated, shift_value}
use Rattle.go_value.specs.Values.{number, truth}
use Rattle.go_value.specs.declared.faults.Fault.{Fault}
use Rattle.interp_state.specs.Machines.{machine_of}
use Rattle.interp_state.specs.States.{looked}
use Rattle.interp_state.specs.declared.machine.Machine.{Machine}
use Rattle.interp_values.proofs.Looked.{integers_are}
use Rattle.plan_mean.specs.Step.{arithmetic, compare_integers, shift}
use Rattle.ssa_mean.specs.Arithmetic.{holds}
use Rattle.ssa_mean.specs.Comes.{of_result, then_to, to}

pub arithmetic_is : (m : Machine) (op : ConstOp) (kind : IntKind) (left right : Arg) (a b : ℤ)
    (outcome : Result ℤ Fault) → looked m left ≡ Some (number a) → looked m right ≡ Some (number b)
    → operated kind op a b ≡ outcome
    → arithmetic (machine_of m) op kind left right ≡ then_to number (of_result outcome)
arithmetic_is m op kind left right a b outcome one two is =
    integers_are m left right a b (λ a b. then_to number (of_result (operated kind op a b))) one two
    ∙ ap (λ (o : Result ℤ Fault). then_to number (of_result o)) is

pub shift_is : (m : Machine) (left : Bool) (kind : IntKind) (it count : Arg) (a n : ℤ) (outcome : Result ℤ Fault)
    → looked m it ≡ Some (number a) → looked m count ≡ Some (number n) → shift_value kind left a n ≡ outcome
    → shift (machine_of m) left kind it count ≡ then_to number (of_result outcome)
shift_is m left kind it count a n outcome one two is =
    integers_are m it count a n (λ a n. then_to number (of_result (shift_value kind left a n))) one two
    ∙ ap (λ (o : Result ℤ Fault). then_to number (of_result o)) is

pub comparison_is : (m : Machine) (op : CompareOp) (left right : Arg) (a b : ℤ) → looked m left ≡ Some (number a)
    → looked m right ≡ Some (number b)
    → compare_integers (machine_of m) op left right ≡ to (truth (holds op (int_cmp a b)))
comparison_is m op left right a b one two =
    integers_are m left right a b (λ a b. to (truth (holds op (int_cmp a b)))) one two
