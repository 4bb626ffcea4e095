use Rattle.std.proofs.Common.{◌≡◌, [], None, Some, ap, arith, false, map, suc, sym}
use Rattle.go_value.specs.Values.{value_of}
use Rattle.interp_calls.proofs.Calls.{through}
use Rattle.interp_calls.proofs.calling.start_next.Goals as goal
use Rattle.interp_calls.specs.Ways.{entry_with, on_way}
use Rattle.interp_state.specs.Machines.{machine_of}
use Rattle.plan_mean.specs.Calls.{enters}
use Rattle.plan_mean.specs.Step.{starts_next}

pub returns : goal.returns
returns c =
    λ few.
    let m = machine_of c.args.machine.now in
    let mid = record (c.args.machine.now) { started = c.saturating_add-machine.result; waiting = c.clear.new.self } in
    let one : c.saturating_add-machine.result ≡ suc c.args.machine.now.started =
    omega (arith, c.saturating_add-machine.ensures) in
    let none = sym (ap (map value_of) c.clear.ensures.items) in
    let more = sym one in
    through c.enter.result c.args.machine.now mid c.enter.new.machine (λ w. starts_next w m (Some c.args.function))
    (λ w. enters w (entry_with c.args.function [] (on_way mid) (record { deferred = false; to = None; chain = 0 }))
    (machine_of mid))
    (λ w within. record { plan = within.plan; naming = within.naming; answers = within.answers; asked = within.asked })
    (λ w within. λ i. enters w (record {
      function = c.args.function;
      free = [];
      arguments = none i;
      deferred = false;
      result = None;
      chain = 0;
    }) (record m { started = more i })) c.enter.ensures
