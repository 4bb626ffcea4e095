use Rattle.std.proofs.Common.{◌∙◌}
use Rattle.interp_state.proofs.Panics.{interface_of, thrown_value, thrown_text}
use Rattle.go_value.specs.Values.{value_of, text}
use Rattle.go_value.specs.declared.values.Value.TheVariants as values
use Rattle.interp_state.proofs.machine.Machine.thrown.Goals as goal

pub returns-in_ok-dynamic-in-Some : goal.returns-in_ok-dynamic-in-Some
returns-in_ok-dynamic-in-Some c =
    λ w within. thrown_value w c.args.self.now c.args.fault.now c.in_ok-text.text c.in-Some.of
    (value_of (values.Interface c.in_ok-dynamic-in-Some.dynamic)) within c.in_ok-text.ensures c.in-Some.is
    (interface_of c.in_ok-dynamic-in-Some.dynamic c.in-Some.of c.in_ok-value-in-Some.value (text c.in_ok-text.text)
    (c.in_ok-dynamic-in-Some.ensures.ok ∙ c.new.ensures) c.in_ok-value-in-Some.ensures)

pub returns-in_ok-run_time_error-in-None : goal.returns-in_ok-run_time_error-in-None
returns-in_ok-run_time_error-in-None c =
    λ w within. thrown_text w c.args.self.now c.args.fault.now c.in_ok-text.text c.as_slice.result.now
    c.in_ok-run_time_error-in-None.field-0 within c.in_ok-text.ensures c.in-None.is c.as_slice.ensures
    c.in_ok-run_time_error-in-None.ensures
