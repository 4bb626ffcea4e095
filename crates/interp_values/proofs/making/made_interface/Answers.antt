use Rattle.std.proofs.Common.{ap, ◌∙◌, Err, sym, subst}
use Rattle.go_value.specs.Interfaces.{converted}
use Rattle.go_value.specs.Values.{value_of}
use Rattle.interp_state.specs.Errors.{met_of}
use Rattle.interp_state.specs.Machines.{machine_of}
use Rattle.interp_state.specs.Turns.{IsGiven}
use Rattle.interp_values.proofs.Made.{err_is, one_is, given_by}
use Rattle.plan_mean.specs.Operands.{with_one}
use Rattle.ssa_mean.specs.Comes.{of_result}
use Rattle.interp_values.proofs.making.made_interface.Goals as goal

pub returns-in_err-to_interface : goal.returns-in_err-to_interface
returns-in_err-to_interface c =
    let m = c.args.machine.now in
    let types = m.code.now.types in
    err_is
    (λ outcome. IsGiven outcome (with_one (machine_of m) c.args.operand.now
    (λ inner. of_result (converted types c.args.of inner))))
    c.from_residual-in_err-to_interface.result c.in_err-to_interface.field-0.0
    c.from_residual-in_err-to_interface.ensures.1
    (subst (IsGiven (Err (met_of c.in_err-to_interface.field-0.0)))
    (sym (one_is m c.args.operand.now (value_of c.in_ok-value.value)
    (λ inner. of_result (converted types c.args.of inner))
    c.in_ok-value.ensures))
    (given_by c.in_err-to_interface.field-0.0 (converted types c.args.of (value_of c.in_ok-value.value))
    c.in_err-to_interface.ensures))

pub returns : goal.returns
returns c =
    let m = c.args.machine.now in
    let types = m.code.now.types in
    one_is m c.args.operand.now (value_of c.in_ok-value.value) (λ inner. of_result (converted types c.args.of inner))
    c.in_ok-value.ensures
    ∙ ap of_result c.in_ok-to_interface.ensures
