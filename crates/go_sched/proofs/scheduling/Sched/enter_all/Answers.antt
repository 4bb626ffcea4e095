use Rattle.std.proofs.Common.{◌∙◌, ap, sym, ◌+◌, arith}
use Rattle.go_base.specs.declared.ids.GoId.{GoId}
use Rattle.go_sched.specs.Channels.{case_of}
use Rattle.go_sched.specs.Goroutines.{State, state_of, left_lists}
use Rattle.go_sched.specs.Operations.{entered}
use Rattle.go_sched.proofs.Entered.{entered_leaves, entered_current, entered_next}
use Rattle.go_sched.proofs.Reached.{next_item}
use Rattle.go_sched.proofs.scheduling.Sched.enter_all.Goals as goal

pub loop-index-preserved : goal.loop-index-preserved
loop-index-preserved c =
    let i = c.loop-index.index in
    let ops = c.args.ops.now in
    let op = c.index-ops-index.result in
    let now = state_of c.loop-index.self in
    let then = c.in_ok-enter.ensures.ok ∙ ap (λ n. entered n (case_of op) now) c.in-Ok.ensures.1 in
    let inv = c.loop-index.invariant in (
      entered_next case_of i (i + 1) op ops now (state_of c.enter.new.self) (omega arith) (next_item ops i op c.loop-index-test.true c.index-ops-index.is) then ∙ inv.0,
      (
        ap (left_lists c.args.self.now.current) then ∙ ap (λ (g : GoId). left_lists g (entered i (case_of op) now)) (sym inv.1.1) ∙ entered_leaves i (case_of op) now ∙ ap (λ (g : GoId). left_lists g now) inv.1.1 ∙ inv.1.0,
        ap (λ (s : State). s.current) then ∙ entered_current i (case_of op) now ∙ inv.1.1,
      ),
    )
