use Rattle.std.proofs.Common.{refl, arith}
use Rattle.go_sched.specs.Channels.{chan_of, closed_down}
use Rattle.go_sched.proofs.Changes.{chan_changed, chan_unchanged, held_as}
use Rattle.go_sched.proofs.Reached.{got, past}
use Rattle.go_sched.proofs.scheduling.Sched.shut.Goals as goal

pub invariant_of-self : goal.invariant_of-self
invariant_of-self c =
    let s = c.args.self.now in
    let n = c.args.chan.number in
    let it = c.in-Some.channel.now in
    let at = got s.channels.items s.channels.items n it refl c.in-Some.ensures.item.3.0 c.in-Some.ensures.item.1 in
    record {
      ascending = s.ascending;
      room = s.room;
      standing = held_as n s it c.close.new.self (closed_down (chan_of it)) at c.close.ensures (λ m. omega arith);
    }

pub returns-in-Some : goal.returns-in-Some
returns-in-Some c =
    let s = c.args.self.now in
    let n = c.args.chan.number in
    let it = c.in-Some.channel.now in
    let at = got s.channels.items s.channels.items n it refl c.in-Some.ensures.item.3.0 c.in-Some.ensures.item.1 in
    chan_changed closed_down c.args.chan s it c.close.new.self at c.close.ensures

pub returns-in_default : goal.returns-in_default
returns-in_default c = chan_unchanged closed_down c.args.chan c.args.self.now (past c.args.self.now.channels.items c.args.self.now.channels.items c.args.chan.number refl c.in_default.ensures.item.3)
