use Rattle.std.proofs.Common.{◌∙◌, Option, ap, false, sym}
use Rattle.std.specs.Prelude.{option_map}
use Rattle.interp_calls.proofs.Calls.{through}
use Rattle.interp_calls.proofs.calling.begin_or_end.Goals as goal
use Rattle.interp_state.specs.Machines.{later_of, machine_of}
use Rattle.plan_mean.specs.State as meant
use Rattle.plan_mean.specs.State.{with_current}
use Rattle.plan_mean.specs.Step.{begins, ends_or_starts, makes}

pub returns-in-Some : goal.returns-in-Some
returns-in-Some c =
    let m = machine_of c.args.machine.now in
    let mid = record (c.args.machine.now) { current = record (c.args.machine.now.current) { begin = c.take.new.self } }
    in
    let it = later_of c.in-Some.later in
    through c.make_later.result c.args.machine.now mid c.make_later.new.machine (λ w. begins w m m.current.begin)
    (λ w. makes w (machine_of mid) it false it.called)
    (λ w within. record { plan = within.plan; naming = within.naming; answers = within.answers; asked = within.asked })
    (λ w within. ap (begins w m) (ap (option_map later_of) (sym c.take.ensures.value ∙ c.in-Some.is))
    ∙ ap (λ (begin : Option meant.Later). makes w (with_current (record (m.current) { begin = begin }) m) it false
    it.called)
    (sym (ap (option_map later_of) c.take.ensures.after))) c.make_later.ensures

pub returns-in-None : goal.returns-in-None
returns-in-None c =
    let m = machine_of c.args.machine.now in
    let mid = record (c.args.machine.now) { current = record (c.args.machine.now.current) { begin = c.take.new.self } }
    in
    let none = sym c.take.ensures.value ∙ c.in-None.is in
    through c.end_or_start.result c.args.machine.now mid c.end_or_start.new.machine (λ w. begins w m m.current.begin)
    (λ w. ends_or_starts w (machine_of mid) (machine_of mid).sched.current.number)
    (λ w within. record { plan = within.plan; naming = within.naming; answers = within.answers; asked = within.asked })
    (λ w within. ap (begins w m) (ap (option_map later_of) none)
    ∙ ap (λ (begin : Option meant.Later). ends_or_starts w (with_current (record (m.current) { begin = begin }) m)
    m.sched.current.number) (ap (option_map later_of) (none ∙ sym c.take.ensures.after))) c.end_or_start.ensures
