use Rattle.std.proofs.Common.{refl}
use Rattle.go_store.specs.Stores.{stored}
use Rattle.go_value.specs.Values.{value_of}
use Rattle.interp_state.specs.Machines.{machine_of}
use Rattle.interp_state.specs.Turns.{IsChanged}
use Rattle.interp_values.proofs.Made.{err_is, update_done, no_update, comparable_in}
use Rattle.plan_mean.specs.Operands.{with_one, with_two}
use Rattle.plan_mean.specs.Step.{update}
use Rattle.interp_values.proofs.making.updated.Goals as goal

pub returns-in_err-map_put : goal.returns-in_err-map_put
returns-in_err-map_put c w within =
    let m = c.args.machine.now in
    err_is
    (λ outcome. IsChanged outcome m (record m { store = c.map_put.new.self })
    (with_two (machine_of m) c.args.map.now c.args.key.now
    (λ it key. with_one (machine_of m) c.args.value.now (update w (stored m.store) it key))))
    c.from_residual-in_err-map_put.result c.in_err-map_put.field-0.0 c.from_residual-in_err-map_put.ensures.1
    (no_update w m (record m { store = c.map_put.new.self }) c.args.map.now c.args.key.now c.args.value.now
    c.in_ok-map.map
    (value_of c.in_ok-key.key) (value_of c.in_ok-value.value) c.in_err-map_put.field-0.0 c.in_ok-map.ensures
    c.in_ok-key.ensures c.in_ok-value.ensures
    (c.in_err-map_put.ensures.fault w.answers.comparable (comparable_in w m within)) c.in_err-map_put.ensures.err refl)

pub returns : goal.returns
returns c w within =
    let m = c.args.machine.now in
    update_done w m (record m { store = c.map_put.new.self }) c.args.map.now c.args.key.now c.args.value.now
    c.in_ok-map.map
    (value_of c.in_ok-key.key) (value_of c.in_ok-value.value) c.in_ok-map_put.field-0 c.in_ok-map.ensures
    c.in_ok-key.ensures c.in_ok-value.ensures
    (c.in_ok-map_put.ensures.fault w.answers.comparable (comparable_in w m within)) c.in_ok-map_put.ensures.ok refl
