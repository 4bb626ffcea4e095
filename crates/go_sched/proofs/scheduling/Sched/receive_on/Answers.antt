use Rattle.std.proofs.Common.{◌∙◌, ap, map}
use Rattle.go_sched.specs.Channels.{chan_of}
use Rattle.go_sched.specs.Goroutines.{state_of, stopped}
use Rattle.go_sched.specs.Operations.{woken_of}
use Rattle.go_sched.proofs.Changes.{there}
use Rattle.go_sched.proofs.Paths.{received_by_sender, received_by_value, received_by_closed, received_by_nobody}
use Rattle.go_sched.proofs.Reached.{got}
use Rattle.go_sched.proofs.scheduling.Sched.receive_on.Goals as goal

pub returns-in-Some-next_sender : goal.returns-in-Some-next_sender
returns-in-Some-next_sender c =
    let s = c.args.self.now in
    let k = c.args.id.number in
    let it = c.in-Some.channel.now in
    let at = there s k it (got s.channels.items c.deref.result.now k it c.deref.ensures.value c.in-Some.ensures.lookup.3.0 c.in-Some.ensures.lookup.1) in
    received_by_sender c.args.index (state_of s) (state_of c.take_over.new.self) c.args.id (chan_of it) (woken_of c.in-Some-next_sender.wake) _ (map woken_of c.in_ok-value.wakes) at c.in-Some-next_sender.ensures c.in_ok-value.ensures.value c.in_ok-value.ensures.wakes c.in_ok-value.ensures.ok

pub returns-then-has_values : goal.returns-then-has_values
returns-then-has_values c =
    let s = c.args.self.now in
    let k = c.args.id.number in
    let it = c.in-Some.channel.now in
    let at = there s k it (got s.channels.items c.deref.result.now k it c.deref.ensures.value c.in-Some.ensures.lookup.3.0 c.in-Some.ensures.lookup.1) in
    received_by_value c.args.index (state_of s) (state_of c.take-value.new.self) c.args.id (chan_of it) _ (map woken_of c.new.result) at c.in_default-next_sender.ensures c.if-has_values.ensures c.take-value.ensures.value (ap (map woken_of) c.new.ensures) c.take-value.ensures.after

pub returns-then-channel : goal.returns-then-channel
returns-then-channel c =
    let s = c.args.self.now in
    let k = c.args.id.number in
    let it = c.in-Some.channel.now in
    let at = there s k it (got s.channels.items c.deref.result.now k it c.deref.ensures.value c.in-Some.ensures.lookup.3.0 c.in-Some.ensures.lookup.1) in
    received_by_closed c.args.index (state_of s) c.args.id (chan_of it) (map woken_of c.new-then-channel.result) at c.in_default-next_sender.ensures c.if-has_values.ensures c.if-channel.true (ap (map woken_of) c.new-then-channel.ensures)

pub returns : goal.returns
returns c =
    let s = c.args.self.now in
    let k = c.args.id.number in
    let it = c.in-Some.channel.now in
    let at = there s k it (got s.channels.items c.deref.result.now k it c.deref.ensures.value c.in-Some.ensures.lookup.3.0 c.in-Some.ensures.lookup.1) in
    received_by_nobody c.args.index (state_of s) (state_of c.stop.new.self) c.args.id (chan_of it) at c.in_default-next_sender.ensures c.if-has_values.ensures c.if-channel.false (c.stop.ensures ∙ ap stopped c.in_ok-wait_to_receive.ensures.ok)
