use Rattle.std.proofs.Common.{◌≡◌, ◌∙◌, ap, sym, map, not, Ok, None}
use Rattle.go_sched.specs.Goroutines.{state_of}
use Rattle.go_sched.specs.Channels.{case_of}
use Rattle.go_sched.specs.Operations.{default, selected_of, selects, woken_of}
use Rattle.go_value.specs.Values.{value_of}
use Rattle.interp_builtins.proofs.Outcomes.{completes_with}
use Rattle.interp_builtins.proofs.Received.{at_ok}
use Rattle.interp_state.specs.Machines.{machine_of}
use Rattle.plan_mean.specs.Channels.{completed, selected}
use Rattle.plan_mean.specs.State.{with_value}
use Rattle.plan_mean.specs.Step.{select_among}
use Rattle.interp_builtins.proofs.channels.select_among.Goals as goal

pub returns-in-Ok-Default : goal.returns-in-Ok-Default
returns-in-Ok-Default c =
    let m = c.args.machine.now in
    let after = state_of c.select.new.self in
    let cases = c.args.cases.now in
    let given = c.select_value-value-in-Ok-Default.result in
    completes_with c.complete_with-in-Ok-Default.result m c.complete_with-in-Ok-Default.new.machine c.select.new.self
    (selects (state_of m.sched) (map case_of c.args.operations.now) (not c.args.blocking))
    (record { answer = Ok default; after = after }) (λ w outcome. select_among w (machine_of m) c.args.to cases outcome)
    c.args.to given (selected cases None None) (map woken_of c.new-nobody.result)
    (c.in-Ok-Default.ensures
    ∙ ap (λ it. record { answer = Ok (selected_of it); after = after }) c.in-Ok-Default.field-0-is)
    (λ w. ap (λ them. completed w (map woken_of them)
    (with_value c.args.to (selected cases None None) (machine_of (record m { sched = c.select.new.self }))))
    (sym c.new-nobody.ensures))
    (λ value is. at_ok (λ it. value_of it ≡ selected cases None None) given value
    c.select_value-value-in-Ok-Default.ensures is)
    c.complete_with-in-Ok-Default.ensures
