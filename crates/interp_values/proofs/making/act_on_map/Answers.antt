use Rattle.std.proofs.Common.{subst, sym}
use Rattle.code_plan.specs.declared.steps.Step.{Step}
use Rattle.go_store.specs.Stores.{stored}
use Rattle.go_value.specs.Values.{value_of}
use Rattle.interp_state.proofs.Turns.{given_in}
use Rattle.interp_state.specs.Machines.{machine_of}
use Rattle.go_value.specs.declared.values.Value.{Value}
use Rattle.interp_state.specs.Turns.{IsIn, IsGiven, Steps}
use Rattle.plan_mean.specs.State.{World}
use Rattle.interp_values.proofs.Made.{changed_in}
use Rattle.plan_mean.specs.Operands.{with_one, with_two}
use Rattle.plan_mean.specs.Step.{acts, look_up, update}
use Rattle.interp_values.proofs.making.act_on_map.Goals as goal

pub returns-in-Lookup : goal.returns-in-Lookup
unfolding acts
returns-in-Lookup c =
    let m = c.args.machine.now in
    subst (λ (step : Step). Steps c.give.result m c.give.new.self (λ w. acts w (machine_of m) step))
    (sym c.in-Lookup.is)
    (given_in c.in-Lookup.to c.found-found.result
    (λ w. with_two (machine_of m) c.in-Lookup.map c.in-Lookup.key
    (look_up w (stored m.store) (value_of c.in-Lookup.zero.value) c.in-Lookup.comma_ok))
    c.give.result m c.give.new.self c.give.ensures
    (subst (λ (zero : Value). (w : World) → IsIn w m → IsGiven c.found-found.result
    (with_two (machine_of m) c.in-Lookup.map c.in-Lookup.key
    (look_up w (stored m.store) (value_of zero) c.in-Lookup.comma_ok)))
    c.deref.ensures c.found-found.ensures))

pub returns-in-Update : goal.returns-in-Update
unfolding acts
returns-in-Update c =
    let m = c.args.machine.now in
    subst (λ (step : Step). Steps c.done.result m c.done.new.self (λ w. acts w (machine_of m) step))
    (sym c.in-Update.is)
    (changed_in c.updated-updated.result
    (λ w. with_two (machine_of m) c.in-Update.map c.in-Update.key (λ it key. with_one (machine_of m) c.in-Update.value
    (update w (stored m.store) it key)))
    c.done.result m c.updated-updated.new.machine c.done.new.self c.done.ensures c.updated-updated.ensures)
