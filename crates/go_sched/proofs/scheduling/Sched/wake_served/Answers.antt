use Rattle.std.proofs.Common.{◌<◌, ap, sym, subst}
use Rattle.go_sched.specs.Goroutines.{State}
use Rattle.go_sched.proofs.Changes.{made}
use Rattle.go_sched.proofs.scheduling.Sched.wake_served.Goals as goal

pub start-requires : goal.start-requires
start-requires c =
    subst (λ n. c.args.goroutine.number < n) (sym (ap (λ (it : State). it.goroutines) c.leave_served.ensures)) (made c.args.self.now c.args.goroutine.number c.args.chan.number _ c.requires)
