use Rattle.std.proofs.Common.{◌∙◌, ap, sym, refl}
use Rattle.go_sched.specs.Channels.{chan_of, passed, passed_value}
use Rattle.go_sched.specs.Goroutines.{state_of, gone_on}
use Rattle.go_sched.specs.Standing.{standing_in}
use Rattle.go_sched.proofs.Changes.{at_most, either, always_err, there, chan_same, held_as}
use Rattle.go_sched.proofs.First.{served_less, chan_set, passed_less, passed_one_less, sender_goes_on, nobody_sends}
use Rattle.go_sched.proofs.Reached.{got}
use Rattle.go_sched.proofs.scheduling.Sched.serve_sender.Goals as goal

pub invariant_of-self-2 : goal.invariant_of-self-2
invariant_of-self-2 c =
    let s = c.args.self.now in
    let k = c.args.chan.number in
    let it = c.in-Some.channel.now in
    let at = got s.channels.items s.channels.items k it refl c.in-Some.ensures.item.3.0 c.in-Some.ensures.item.1 in
    record {
      ascending = s.ascending;
      room = s.room;
      standing = either c.pass.result c.pass.ensures.ok c.pass.ensures.err
          (λ is. held_as k s it c.pass.new.self (passed (chan_of it)) at is (λ m. passed_less m (chan_of it)))
          (λ is. held_as k s it c.pass.new.self (chan_of it) at is (λ m. at_most (standing_in m (chan_of it))));
    }

pub returns-in_err-value-clause-err : goal.returns-in_err-value-clause-err
returns-in_err-value-clause-err c =
    let s = c.args.self.now in
    let k = c.args.chan.number in
    let it = c.in-Some.channel.now in
    let at = got s.channels.items s.channels.items k it refl c.in-Some.ensures.item.3.0 c.in-Some.ensures.item.1 in
    always_err c.from_residual.result (chan_same k s it c.pass.new.self at c.in_err-value.ensures.err)

pub wake_served-requires : goal.wake_served-requires
wake_served-requires c =
    let s = c.args.self.now in
    let k = c.args.chan.number in
    let it = c.in-Some.channel.now in
    let goroutine = c.in-Some-first_sender.goroutine in
    let at = got s.channels.items s.channels.items k it refl c.in-Some.ensures.item.3.0 c.in-Some.ensures.item.1 in
    served_less k s it c.pass.new.self (passed (chan_of it)) goroutine.number at c.in_ok-value.ensures.ok (passed_one_less (chan_of it) goroutine c.in-Some-first_sender.ensures)

pub returns-in_default-first_sender-clause-ok : goal.returns-in_default-first_sender-clause-ok
returns-in_default-first_sender-clause-ok c =
    let s = c.args.self.now in
    let k = c.args.chan.number in
    let it = c.in-Some.channel.now in
    let at = got s.channels.items s.channels.items k it refl c.in-Some.ensures.item.3.0 c.in-Some.ensures.item.1 in
    chan_same k s it it at refl ∙ nobody_sends c.args.chan (state_of s) (chan_of it) (there s k it at) c.in_default-first_sender.ensures

pub returns-clause-value : goal.returns-clause-value
returns-clause-value c =
    let s = c.args.self.now in
    let k = c.args.chan.number in
    let it = c.in-Some.channel.now in
    let at = got s.channels.items s.channels.items k it refl c.in-Some.ensures.item.3.0 c.in-Some.ensures.item.1 in
    c.in_ok-value.ensures.value ∙ sym (ap passed_value (there s k it at))

pub returns-clause-ok : goal.returns-clause-ok
returns-clause-ok c =
    let s = c.args.self.now in
    let k = c.args.chan.number in
    let it = c.in-Some.channel.now in
    let goroutine = c.in-Some-first_sender.goroutine in
    let at = got s.channels.items s.channels.items k it refl c.in-Some.ensures.item.3.0 c.in-Some.ensures.item.1 in
    c.wake_served.ensures ∙ ap (gone_on goroutine) (chan_set c.args.chan s c.pass.new.self (passed (chan_of it)) c.in_ok-value.ensures.ok)
    ∙ sender_goes_on c.args.chan (state_of s) (chan_of it) goroutine (there s k it at) c.in-Some-first_sender.ensures
