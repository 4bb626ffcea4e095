use Rattle.std.proofs.Common.{refl}
use Rattle.go_value.specs.Values.{value_of}
use Rattle.go_sched.specs.Channels.{chan_of, with_value}
use Rattle.go_sched.specs.Standing.{standing_in}
use Rattle.go_sched.proofs.Changes.{at_most, either, chan_changed, chan_same, held_as}
use Rattle.go_sched.proofs.Reached.{got, on_ok, on_err}
use Rattle.go_sched.proofs.scheduling.Sched.keep.Goals as goal

pub invariant_of-self : goal.invariant_of-self
invariant_of-self c =
    let s = c.args.self.now in
    let n = c.args.chan.number in
    let it = c.in-Some.channel.now in
    let at = got s.channels.items s.channels.items n it refl c.in-Some.ensures.item.3.0 c.in-Some.ensures.item.1 in
    record {
      ascending = s.ascending;
      room = s.room;
      standing = either c.keep.result c.keep.ensures.ok c.keep.ensures.err
          (λ same. held_as n s it c.keep.new.self (with_value (value_of c.args.value) (chan_of it)) at same (λ m. at_most (standing_in m (chan_of it))))
          (λ same. held_as n s it c.keep.new.self (chan_of it) at same (λ m. at_most (standing_in m (chan_of it))));
    }

pub returns-in-Some-clause-ok : goal.returns-in-Some-clause-ok
returns-in-Some-clause-ok c =
    let s = c.args.self.now in
    let n = c.args.chan.number in
    let it = c.in-Some.channel.now in
    let at = got s.channels.items s.channels.items n it refl c.in-Some.ensures.item.3.0 c.in-Some.ensures.item.1 in
    on_ok c.keep.result c.keep.ensures.ok (λ same. chan_changed (with_value (value_of c.args.value)) c.args.chan s it c.keep.new.self at same)

pub returns-in-Some-clause-err : goal.returns-in-Some-clause-err
returns-in-Some-clause-err c =
    let s = c.args.self.now in
    let n = c.args.chan.number in
    let it = c.in-Some.channel.now in
    let at = got s.channels.items s.channels.items n it refl c.in-Some.ensures.item.3.0 c.in-Some.ensures.item.1 in
    on_err c.keep.result c.keep.ensures.err (λ same. chan_same n s it c.keep.new.self at same)
