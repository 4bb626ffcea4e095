use Rattle.std.proofs.Common.{◌∙◌, sym}
use Rattle.go_sched.proofs.Changes.{left_when_served}
use Rattle.go_sched.proofs.scheduling.Sched.leave_served.Goals as goal

pub waits_no_more-requires : goal.waits_no_more-requires
waits_no_more-requires c = left_when_served c.args.goroutine c.args.chan.number c.args.self.now (c.waits_only.ensures c.if-waits_only.true) c.requires

pub returns-then-waits_only : goal.returns-then-waits_only
returns-then-waits_only c =
    c.waits_no_more.ensures ∙ sym (left_when_served c.args.goroutine c.args.chan.number c.args.self.now (c.waits_only.ensures c.if-waits_only.true) c.requires)
