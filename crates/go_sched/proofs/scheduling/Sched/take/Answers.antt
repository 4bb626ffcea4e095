use Rattle.std.proofs.Common.{◌∙◌, ap, sym, refl}
use Rattle.go_sched.specs.Channels.{chan_of, without_value}
use Rattle.go_sched.specs.Operations.{first_value}
use Rattle.go_sched.specs.Standing.{standing_in}
use Rattle.go_sched.proofs.Changes.{at_most, there, absent, chan_changed, chan_unchanged, held_as}
use Rattle.go_sched.proofs.Reached.{got, past}
use Rattle.go_sched.proofs.scheduling.Sched.take.Goals as goal

pub invariant_of-self : goal.invariant_of-self
invariant_of-self c =
    let s = c.args.self.now in
    let n = c.args.chan.number in
    let it = c.in-Some.channel.now in
    let at = got s.channels.items s.channels.items n it refl c.in-Some.ensures.item.3.0 c.in-Some.ensures.item.1 in
    record {
      ascending = s.ascending;
      room = s.room;
      standing = held_as n s it c.take.new.self (without_value (chan_of it)) at c.take.ensures.after (λ m. at_most (standing_in m (chan_of it)));
    }

pub returns-in-Some-clause-value : goal.returns-in-Some-clause-value
returns-in-Some-clause-value c =
    let s = c.args.self.now in
    let n = c.args.chan.number in
    let it = c.in-Some.channel.now in
    let at = got s.channels.items s.channels.items n it refl c.in-Some.ensures.item.3.0 c.in-Some.ensures.item.1 in
    c.take.ensures.value ∙ sym (ap first_value (there s n it at))

pub returns-in-Some-clause-after : goal.returns-in-Some-clause-after
returns-in-Some-clause-after c =
    let s = c.args.self.now in
    let n = c.args.chan.number in
    let it = c.in-Some.channel.now in
    let at = got s.channels.items s.channels.items n it refl c.in-Some.ensures.item.3.0 c.in-Some.ensures.item.1 in
    chan_changed without_value c.args.chan s it c.take.new.self at c.take.ensures.after

pub returns-in-None-clause-value : goal.returns-in-None-clause-value
returns-in-None-clause-value c =
    let s = c.args.self.now in
    sym (ap first_value (absent s c.args.chan.number (past s.channels.items s.channels.items c.args.chan.number refl c.in-None.ensures.item.3)))

pub returns-in-None-clause-after : goal.returns-in-None-clause-after
returns-in-None-clause-after c =
    let s = c.args.self.now in
    chan_unchanged without_value c.args.chan s (past s.channels.items s.channels.items c.args.chan.number refl c.in-None.ensures.item.3)
