use Rattle.std.proofs.Common.{◌∙◌, ap, sym, refl}
use Rattle.go_sched.specs.Channels.{chan_of, left_by}
use Rattle.go_sched.specs.declared.channels.Channel.{Channel}
use Rattle.go_sched.proofs.Changes.{left_in_is, left_in_none}
use Rattle.go_sched.proofs.Reached.{got, past}
use Rattle.go_sched.proofs.serving.forget_at.Goals as goal

pub returns-then-place-channels : goal.returns-then-place-channels
returns-then-place-channels c =
    let items = c.args.channels.now in
    let k = c.args.chan.number in
    let it = c.index-channels-place.result in
    left_in_is c.args.goroutine.number c.args.chan items it c.forget.new.self (got items items k it refl c.if-place-channels.true c.index-channels-place.is) (c.forget.ensures ∙ ap (λ (x : Channel). left_by c.args.goroutine.number (chan_of x)) (sym c.index-channels-place.is))

pub returns-else-place-channels : goal.returns-else-place-channels
returns-else-place-channels c =
    let items = c.args.channels.now in
    left_in_none c.args.goroutine.number c.args.chan items (past items items c.args.chan.number refl c.if-place-channels.false)
