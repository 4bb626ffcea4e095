use Rattle.std.proofs.Common.{◌∙◌, ap, refl, sym}
use Rattle.std.proofs.Common.{None, map}
use Rattle.std.specs.Global.{Vec}
use Rattle.go_value.specs.Values.{value_of}
use Rattle.go_value.specs.declared.values.Value.{Value}
use Rattle.interp_calls.proofs.Calls.{makes_is, through, within_waiting}
use Rattle.interp_calls.proofs.calling.make_later.Goals as goal
use Rattle.interp_calls.specs.Ways.{goes_to_call, on_way}
use Rattle.interp_state.specs.Machines.{called_of, later_of, machine_of}
use Rattle.plan_mean.specs.Calls.{later}
use Rattle.plan_mean.specs.Step.{makes}

pub returns : goal.returns
returns c =
    let m = machine_of c.args.machine.now in
    let called = called_of c.args.later.ready in
    let mid = record (c.args.machine.now) { waiting = c.replace.new.dest } in
    through c.call_ready.result c.args.machine.now mid c.call_ready.new.machine
    (λ w. makes w m (later_of c.args.later) c.args.deferred called)
    (λ w. goes_to_call w m None (later called c.args.later.chain (on_way mid)) c.args.deferred called)
    (λ w within. within_waiting w c.args.machine.now mid refl within)
    (λ w within. makes_is w m (later_of c.args.later) c.args.deferred called
    ∙ ap (λ (ws : Vec Value). goes_to_call w m None (later called c.args.later.chain (map value_of ws.items))
    c.args.deferred called)
    (sym c.replace.ensures.after)) c.call_ready.ensures
