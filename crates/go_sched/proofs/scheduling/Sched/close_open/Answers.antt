use Rattle.std.proofs.Common.{◌∙◌, ap, sym, subst, List, map, ◌<◌}
use Rattle.std.specs.List.{All}
use Rattle.go_sched.specs.Channels.{closed_down}
use Rattle.go_sched.specs.Goroutines.{State, state_of}
use Rattle.go_sched.specs.Operations.{Woken, woken_of}
use Rattle.go_sched.specs.declared.lists.Wake.{Wake}
use Rattle.go_sched.proofs.Closed.{Made, Made-served, Made-all, changed_goroutines}
use Rattle.go_sched.proofs.scheduling.Sched.close_open.Goals as goal

pub wake_all-requires : goal.wake_all-requires
wake_all-requires c =
    let s = c.args.self.now in
    let same = ap (λ (it : State). it.goroutines) c.shut.ensures ∙ changed_goroutines closed_down c.args.chan (state_of s) in
    let here = c.in_ok-wakes.ensures in
    let made : Made (state_of s).goroutines (map woken_of c.as_slice.result.now) =
    subst (λ (ws : List Woken). Made (state_of s).goroutines ws) (sym (ap (map woken_of) c.as_slice.ensures ∙ here)) (Made-served s c.args.chan) in
    subst (λ n. All (λ (it : Wake). it.goroutine.number < n) c.as_slice.result.now) (sym same) (Made-all (state_of s).goroutines c.as_slice.result.now made)
