use Rattle.std.proofs.Common.{ap, sym}
use Rattle.go_sched.specs.Goroutines.{State, state_of}
use Rattle.go_sched.proofs.Changes.{ascending_set, room_set, held_left}
use Rattle.go_sched.proofs.scheduling.Sched.waits_no_more.Goals as goal

pub invariant_of-self : goal.invariant_of-self
invariant_of-self c =
    let s = c.args.self.now in
    let g = c.args.goroutine.number in
    record {
      ascending = ascending_set s g c.clear.new.self;
      room = room_set s g c.clear.new.self;
      standing = held_left g s (state_of s).channels c.clear.new.self (sym (ap (λ (it : State). it.channels) c.requires)) c.clear.ensures.items;
    }
