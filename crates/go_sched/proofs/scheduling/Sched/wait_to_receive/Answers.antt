use Rattle.std.proofs.Common.{◌∙◌, ap, sym, refl}
use Rattle.go_sched.specs.Channels.{chan_of, with_receiver}
use Rattle.go_sched.specs.Goroutines.{State, changed}
use Rattle.go_sched.specs.Standing.{standing_in}
use Rattle.go_sched.proofs.Changes.{at_most, either, chan_changed, chan_same, held_as, held_more}
use Rattle.go_sched.proofs.Held.{receiver_more}
use Rattle.go_sched.proofs.Reached.{got, on_ok, on_err}
use Rattle.go_sched.proofs.scheduling.Sched.wait_to_receive.Goals as goal

pub invariant_of-self : goal.invariant_of-self
invariant_of-self c =
    let s = c.waits_at.new.self in
    let k = c.args.chan.number in
    let it = c.in-Some.channel.now in
    let at = got s.channels.items s.channels.items k it refl c.in-Some.ensures.item.3.0 c.in-Some.ensures.item.1 in
    let same = c.in_ok-waits_at.ensures.same in
    record {
      ascending = s.ascending;
      room = s.room;
      standing = either c.push_receiver.result c.push_receiver.ensures.ok c.push_receiver.ensures.err
          (λ is. held_more k s it c.push_receiver.new.self (with_receiver (record { goroutine = c.args.self.now.current; index = c.args.index }) (chan_of it)) c.args.self.now.current.number at is (ap (λ (st : State). st.current.number) (sym same)) c.in_ok-waits_at.ensures.counted (λ m. receiver_more m (chan_of it) (record { goroutine = c.args.self.now.current; index = c.args.index })))
          (λ is. held_as k s it c.push_receiver.new.self (chan_of it) at is (λ m. at_most (standing_in m (chan_of it))));
    }

pub returns-in-Some-clause-ok : goal.returns-in-Some-clause-ok
returns-in-Some-clause-ok c =
    let s = c.waits_at.new.self in
    let k = c.args.chan.number in
    let it = c.in-Some.channel.now in
    let at = got s.channels.items s.channels.items k it refl c.in-Some.ensures.item.3.0 c.in-Some.ensures.item.1 in
    on_ok c.push_receiver.result c.push_receiver.ensures.ok (λ is. chan_changed (with_receiver (record { goroutine = c.args.self.now.current; index = c.args.index })) c.args.chan s it c.push_receiver.new.self at is ∙ ap (changed (with_receiver (record { goroutine = c.args.self.now.current; index = c.args.index })) c.args.chan) c.in_ok-waits_at.ensures.same)

pub returns-in-Some-clause-err : goal.returns-in-Some-clause-err
returns-in-Some-clause-err c =
    let s = c.waits_at.new.self in
    let k = c.args.chan.number in
    let it = c.in-Some.channel.now in
    let at = got s.channels.items s.channels.items k it refl c.in-Some.ensures.item.3.0 c.in-Some.ensures.item.1 in
    on_err c.push_receiver.result c.push_receiver.ensures.err (λ is. chan_same k s it c.push_receiver.new.self at is ∙ c.in_ok-waits_at.ensures.same)
