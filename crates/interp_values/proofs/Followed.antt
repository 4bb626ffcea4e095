-- Addresses of elements of slices.
use Rattle.std.proofs.Common.{◌≡◌, ◌∙◌, ap, None, Some, Result, ℤ}
use Rattle.code_plan.specs.declared.steps.Arg.{Arg}
use Rattle.go_store.specs.Slices.{element_of}
use Rattle.go_value.specs.Values.{number, pointer, slice}
use Rattle.go_value.specs.declared.address.Pointer.{Pointer}
use Rattle.go_value.specs.declared.address.SliceValue.{SliceValue}
use Rattle.go_value.specs.declared.faults.Fault.{Fault}
use Rattle.interp_state.specs.Machines.{machine_of}
use Rattle.interp_state.specs.States.{looked}
use Rattle.interp_state.specs.declared.machine.Machine.{Machine}
use Rattle.interp_values.proofs.Looked.{two_are}
use Rattle.plan_mean.specs.Operands.{with_two}
use Rattle.ssa_mean.specs.Comes.{of_result, then_to}
use Rattle.ssa_mean.specs.Places.{index_address}

pub slice_element_is : (m : Machine) (operand index : Arg) (at : SliceValue) (n : ℤ) (outcome : Result Pointer Fault)
    → looked m operand ≡ Some (slice at) → looked m index ≡ Some (number n) → element_of at n ≡ outcome
    → with_two (machine_of m) operand index (index_address None) ≡ then_to pointer (of_result outcome)
slice_element_is m operand index at n outcome one two is =
    two_are m operand index (slice at) (number n) (index_address None) one two
    ∙ ap (λ (o : Result Pointer Fault). then_to pointer (of_result o)) is
