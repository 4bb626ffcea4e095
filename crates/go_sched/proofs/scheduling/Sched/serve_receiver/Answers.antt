use Rattle.std.proofs.Common.{◌∙◌, ap, sym, refl}
use Rattle.go_sched.specs.Channels.{chan_of, without_receiver}
use Rattle.go_sched.specs.Goroutines.{state_of, gone_on}
use Rattle.go_sched.proofs.Changes.{there, absent, chan_same, held_as}
use Rattle.go_sched.proofs.First.{served_less, chan_set, without_less, without_one_less, without_none, receiver_goes_on, nobody_receives}
use Rattle.go_sched.proofs.Reached.{got, past}
use Rattle.go_sched.proofs.Served.{no_channel_receives}
use Rattle.go_sched.proofs.scheduling.Sched.serve_receiver.Goals as goal

pub invariant_of-self : goal.invariant_of-self
invariant_of-self c =
    let s = c.args.self.now in
    let k = c.args.chan.number in
    let it = c.in-Some.channel.now in
    let at = got s.channels.items s.channels.items k it refl c.in-Some.ensures.item.3.0 c.in-Some.ensures.item.1 in
    record {
      ascending = s.ascending;
      room = s.room;
      standing = held_as k s it c.pop_receiver.new.self (without_receiver (chan_of it)) at c.pop_receiver.ensures.after (λ m. without_less m (chan_of it));
    }

pub wake_served-requires : goal.wake_served-requires
wake_served-requires c =
    let s = c.args.self.now in
    let k = c.args.chan.number in
    let it = c.in-Some.channel.now in
    let first = c.in-Some-pop_receiver.receiver in
    let at = got s.channels.items s.channels.items k it refl c.in-Some.ensures.item.3.0 c.in-Some.ensures.item.1 in
    served_less k s it c.pop_receiver.new.self (without_receiver (chan_of it)) first.goroutine.number at c.pop_receiver.ensures.after (without_one_less (chan_of it) first c.in-Some-pop_receiver.ensures.first)

pub returns-in-Some-pop_receiver : goal.returns-in-Some-pop_receiver
returns-in-Some-pop_receiver c =
    let s = c.args.self.now in
    let k = c.args.chan.number in
    let it = c.in-Some.channel.now in
    let first = c.in-Some-pop_receiver.receiver in
    let at = got s.channels.items s.channels.items k it refl c.in-Some.ensures.item.3.0 c.in-Some.ensures.item.1 in
    c.wake_served.ensures ∙ ap (gone_on first.goroutine) (chan_set c.args.chan s c.pop_receiver.new.self (without_receiver (chan_of it)) c.pop_receiver.ensures.after)
    ∙ receiver_goes_on c.args.chan (state_of s) (chan_of it) first (there s k it at) c.in-Some-pop_receiver.ensures.first

pub returns-in_default-pop_receiver : goal.returns-in_default-pop_receiver
returns-in_default-pop_receiver c =
    let s = c.args.self.now in
    let k = c.args.chan.number in
    let it = c.in-Some.channel.now in
    let at = got s.channels.items s.channels.items k it refl c.in-Some.ensures.item.3.0 c.in-Some.ensures.item.1 in
    chan_same k s it c.pop_receiver.new.self at (c.pop_receiver.ensures.after ∙ without_none (chan_of it) c.in_default-pop_receiver.ensures.first)
    ∙ nobody_receives c.args.chan (state_of s) (chan_of it) (there s k it at) c.in_default-pop_receiver.ensures.first

pub returns-in_default : goal.returns-in_default
returns-in_default c =
    let s = c.args.self.now in
    sym (no_channel_receives c.args.chan (state_of s) (absent s c.args.chan.number (past s.channels.items s.channels.items c.args.chan.number refl c.in_default.ensures.item.3)))
