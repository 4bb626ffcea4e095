use Rattle.std.proofs.Common.{ap, ◌∙◌, Err, sym, subst, Bool}
use Rattle.std.specs.Prelude.{if◌then◌else◌}
use Rattle.go_value.specs.Interfaces.{bound_to}
use Rattle.go_value.specs.Values.{value_of}
use Rattle.go_value.specs.declared.faults.Fault.TheVariants.{NilPointer}
use Rattle.interp_state.specs.Errors.{met_of}
use Rattle.interp_state.specs.Machines.{machine_of}
use Rattle.interp_state.specs.Turns.{IsGiven}
use Rattle.interp_values.proofs.Made.{err_is, one_is, given_by}
use Rattle.plan_mean.specs.Operands.{with_one}
use Rattle.plan_mean.specs.Step as steps
use Rattle.ssa_mean.specs.Comes.{of_result, faults}
use Rattle.interp_values.proofs.making.bound_method.Goals as goal

pub returns-then-is_nil_interface : goal.returns-then-is_nil_interface
returns-then-is_nil_interface c =
    let receiver = value_of c.in_ok-receiver.receiver in
    one_is c.args.machine.now c.args.receiver.now receiver (steps.bind c.args.target c.args.is_interface)
    c.in_ok-receiver.ensures
    ∙ ap (λ (nil : Bool). if nil then faults NilPointer else of_result (bound_to c.args.target receiver))
    (sym c.if-is_nil_interface.ensures)

pub returns-in_err-bind : goal.returns-in_err-bind
returns-in_err-bind c =
    let m = c.args.machine.now in
    let receiver = value_of c.in_ok-receiver.receiver in
    err_is
    (λ outcome. IsGiven outcome (with_one (machine_of m) c.args.receiver.now
    (steps.bind c.args.target c.args.is_interface)))
    c.from_residual-in_err-bind.result c.in_err-bind.field-0.0 c.from_residual-in_err-bind.ensures.1
    (subst (IsGiven (Err (met_of c.in_err-bind.field-0.0)))
    (sym (one_is m c.args.receiver.now receiver (steps.bind c.args.target c.args.is_interface) c.in_ok-receiver.ensures
    ∙ ap (λ (nil : Bool). if nil then faults NilPointer else of_result (bound_to c.args.target receiver))
    (sym c.if-is_nil_interface.ensures)))
    (given_by c.in_err-bind.field-0.0 (bound_to c.args.target receiver) c.in_err-bind.ensures))

pub returns : goal.returns
returns c =
    let receiver = value_of c.in_ok-receiver.receiver in
    one_is c.args.machine.now c.args.receiver.now receiver (steps.bind c.args.target c.args.is_interface)
    c.in_ok-receiver.ensures
    ∙ ap (λ (nil : Bool). if nil then faults NilPointer else of_result (bound_to c.args.target receiver))
    (sym c.if-is_nil_interface.ensures)
    ∙ ap of_result c.in_ok-bind.ensures
