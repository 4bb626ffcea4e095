use Rattle.interp_calls.proofs.Calls.{through}
use Rattle.interp_calls.proofs.unwinding.unwind.Goals as goal
use Rattle.interp_calls.specs.Ways.{goes_back, goes_on}
use Rattle.interp_state.proofs.Tops.{with_current_in}
use Rattle.interp_state.specs.Machines.{later_of, machine_of}
use Rattle.plan_mean.specs.Step.{makes}
use Rattle.std.proofs.Common.{true}

pub returns-in-Some : goal.returns-in-Some
returns-in-Some c =
    let mid = c.last_deferred.new.machine in
    let it = later_of c.in-Some.later in
    through c.make_later.result c.args.machine.now mid c.make_later.new.machine
    (λ w. goes_back w (machine_of c.args.machine.now) (machine_of c.args.machine.now).current.frames)
    (λ w. makes w (machine_of mid) it true it.called)
    (λ w within. with_current_in w c.args.machine.now mid mid.current c.last_deferred.ensures.others within)
    (λ w within. c.in-Some.ensures.some w) c.make_later.ensures

pub returns-in-None : goal.returns-in-None
returns-in-None c =
    let mid = c.last_deferred.new.machine in
    through c.go_on.result c.args.machine.now mid c.go_on.new.machine
    (λ w. goes_back w (machine_of c.args.machine.now) (machine_of c.args.machine.now).current.frames)
    (λ w. goes_on w (machine_of mid) (machine_of mid).current.frames)
    (λ w within. with_current_in w c.args.machine.now mid mid.current c.last_deferred.ensures.others within)
    (λ w within. c.in-None.ensures.none w) c.go_on.ensures
