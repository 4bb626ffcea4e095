use Rattle.std.proofs.Common.{subst, sym}
use Rattle.std.specs.Option.{option_and_then}
use Rattle.code_plan.specs.declared.steps.Step.TheVariants as act
use Rattle.go_interp.proofs.Forms.{as_form}
use Rattle.go_sched.specs.Goroutines.{state_of}
use Rattle.go_store.specs.Stores.{stored}
use Rattle.go_value.specs.Values.{value_of}
use Rattle.go_value.specs.declared.values.Value.{Value}
use Rattle.interp_state.specs.Machines.{machine_of}
use Rattle.interp_state.specs.States.{slots_of}
use Rattle.interp_state.specs.Turns.{Steps}
use Rattle.plan_mean.specs.Ranges.{map_turn}
use Rattle.plan_mean.specs.Slots.{slot_in}
use Rattle.plan_mean.specs.State.{where_there}
use Rattle.plan_mean.specs.Step.{acts, gives_stored, turns, with_integers}
use Rattle.ssa_mean.specs.Making.{made_slice}
use Rattle.go_interp.proofs.stepping.act_outside.Goals as goal

pub returns-in-MakeSlice : goal.returns-in-MakeSlice
unfolding acts
returns-in-MakeSlice c =
    let m = c.args.machine.now in
    as_form c.make_slice.result m c.make_slice.new.machine
    (act.MakeSlice c.in-MakeSlice.zero c.in-MakeSlice.leaves c.in-MakeSlice.len c.in-MakeSlice.cap c.in-MakeSlice.to)
    c.args.step.now c.in-MakeSlice.is
    (subst (λ (zero : Value). Steps c.make_slice.result m c.make_slice.new.machine
    (λ w. gives_stored w (machine_of m) c.in-MakeSlice.to (with_integers (machine_of m) c.in-MakeSlice.len
    c.in-MakeSlice.cap (made_slice c.in-MakeSlice.leaves (stored m.store) (value_of zero)))))
    c.deref.ensures c.make_slice.ensures)

pub returns-in-Go : goal.returns-in-Go
unfolding acts
returns-in-Go c =
    as_form c.go.result c.args.machine.now c.go.new.machine (act.Go c.in-Go.call) c.args.step.now c.in-Go.is c.go.ensures

pub returns-in-Defer : goal.returns-in-Defer
unfolding acts
returns-in-Defer c =
    as_form c.defer.result c.args.machine.now c.defer.new.machine (act.Defer c.in-Defer.call) c.args.step.now c.in-Defer.is
    c.defer.ensures

pub returns-in-RunDefers : goal.returns-in-RunDefers
unfolding acts
returns-in-RunDefers c =
    as_form c.run_defers.result c.args.machine.now c.run_defers.new.machine act.RunDefers c.args.step.now
    c.in-RunDefers.is c.run_defers.ensures

pub returns-in-Receive : goal.returns-in-Receive
returns-in-Receive c =
    as_form c.receive.result c.args.machine.now c.receive.new.machine
    (act.Receive c.in-Receive.channel c.in-Receive.zero c.in-Receive.comma_ok c.in-Receive.to) c.args.step.now
    c.in-Receive.is (c.receive.ensures c.in-Receive.zero (sym c.deref-in-Receive.ensures))

pub returns-in-Select : goal.returns-in-Select
returns-in-Select c =
    as_form c.select.result c.args.machine.now c.select.new.machine
    (act.Select c.in-Select.blocking c.in-Select.cases c.in-Select.to) c.args.step.now
    c.in-Select.is (c.select.ensures c.in-Select.cases (sym c.deref-in-Select.ensures.value))

pub returns-in-NextMap : goal.returns-in-NextMap
unfolding acts
returns-in-NextMap c =
    let m = c.args.machine.now in
    as_form c.next_map.result m c.next_map.new.machine
    (act.NextMap c.in-NextMap.range c.in-NextMap.key c.in-NextMap.value c.in-NextMap.to) c.args.step.now c.in-NextMap.is
    (subst (λ (key : Value). Steps c.next_map.result m c.next_map.new.machine
    (λ w. where_there (turns (machine_of m) c.in-NextMap.range c.in-NextMap.to)
    (option_and_then (map_turn (stored m.store) (state_of m.sched) (value_of key) (value_of c.in-NextMap.value.value))
    (slot_in (slots_of m) c.in-NextMap.range)))) c.deref-in-NextMap.ensures
    (subst (λ (it : Value). Steps c.next_map.result m c.next_map.new.machine
    (λ w. where_there (turns (machine_of m) c.in-NextMap.range c.in-NextMap.to)
    (option_and_then (map_turn (stored m.store) (state_of m.sched) (value_of c.deref-in-NextMap.result.now) (value_of it))
    (slot_in (slots_of m) c.in-NextMap.range)))) c.deref-in-NextMap-2.ensures c.next_map.ensures))

pub returns-in-Panic : goal.returns-in-Panic
unfolding acts
returns-in-Panic c =
    as_form c.panic.result c.args.machine.now c.panic.new.machine (act.Panic c.in-Panic.value) c.args.step.now
    c.in-Panic.is c.panic.ensures
