use Rattle.go_store.specs.Stores.{stored}
use Rattle.go_value.specs.Values.{value_of}
use Rattle.std.specs.Prelude.{option_map}
use Rattle.interp_state.specs.Machines.{machine_of}
use Rattle.interp_state.specs.Turns.{IsGiven}
use Rattle.interp_values.proofs.Made.{err_is, looked_up, no_lookup, comparable_in}
use Rattle.plan_mean.specs.Operands.{with_two}
use Rattle.plan_mean.specs.Step.{look_up}
use Rattle.interp_values.proofs.making.found.Goals as goal

pub returns-in_err-found : goal.returns-in_err-found
returns-in_err-found c w within =
    let m = c.args.machine.now in
    err_is
    (λ outcome. IsGiven outcome (with_two (machine_of m) c.args.map.now c.args.key.now
    (look_up w (stored m.store) (value_of c.args.zero.now) c.args.comma_ok)))
    c.from_residual-in_err-found.result c.in_err-found.field-0.0 c.from_residual-in_err-found.ensures.1
    (no_lookup w m c.args.map.now c.args.key.now c.in_ok-map.map (value_of c.in_ok-key.key.now)
    (value_of c.args.zero.now)
    c.args.comma_ok c.in_err-found.field-0.0 c.in_ok-map.ensures c.in_ok-key.ensures
    (c.in_err-found.ensures.fault w.answers.comparable (comparable_in w m within)))

pub returns : goal.returns
returns c w within =
    let m = c.args.machine.now in
    looked_up w m c.args.map.now c.args.key.now c.in_ok-map.map (value_of c.in_ok-key.key.now)
    (value_of c.args.zero.now)
    (value_of c.in_ok-found_or.field-0) c.args.comma_ok (option_map value_of c.in_ok-found.found) c.in_ok-map.ensures
    c.in_ok-key.ensures (c.in_ok-found.ensures.fault w.answers.comparable (comparable_in w m within))
    c.in_ok-found.ensures.value c.in_ok-found_or.ensures
