use Rattle.std.proofs.Common.{◌∙◌, refl}
use Rattle.std.proofs.lemmas.List.{with_items_is}
use Rattle.go_sched.proofs.Changes.{ascending_set, room_set, left_chans, held_left, left_state, left_by_absent}
use Rattle.go_sched.proofs.Reached.{got, past}
use Rattle.go_sched.proofs.scheduling.Sched.leave_lists.Goals as goal

pub invariant_of-self : goal.invariant_of-self
invariant_of-self c =
    let s = c.args.self.now in
    let g = c.args.goroutine.number in
    let it = c.in-Some.waits.now in
    let at = got s.waits.items s.waits.items g it refl c.in-Some.ensures.item.3.0 c.in-Some.ensures.item.1 in
    let back = with_items_is s.channels c.forget_in.new.channels (c.forget_in.auto.channels ∙ c.as_mut_slice.ensures.len) in
    let left = left_chans g s it c.as_slice.result.now c.as_mut_slice.result.now c.forget_in.new.channels _ at c.as_slice.ensures.value c.as_mut_slice.ensures.value c.forget_in.ensures back in
    record {
      ascending = ascending_set s g c.clear.new.self;
      room = room_set s g c.clear.new.self;
      standing = held_left g s _ c.clear.new.self left c.clear.ensures.items;
    }

pub returns-in-Some : goal.returns-in-Some
returns-in-Some c =
    let s = c.args.self.now in
    let g = c.args.goroutine.number in
    let it = c.in-Some.waits.now in
    let at = got s.waits.items s.waits.items g it refl c.in-Some.ensures.item.3.0 c.in-Some.ensures.item.1 in
    let back = with_items_is s.channels c.forget_in.new.channels (c.forget_in.auto.channels ∙ c.as_mut_slice.ensures.len) in
    let left = left_chans g s it c.as_slice.result.now c.as_mut_slice.result.now c.forget_in.new.channels _ at c.as_slice.ensures.value c.as_mut_slice.ensures.value c.forget_in.ensures back in
    left_state c.args.goroutine s _ c.clear.new.self left

pub returns-in_default : goal.returns-in_default
returns-in_default c =
    let s = c.args.self.now in
    left_by_absent c.args.goroutine s (past s.waits.items s.waits.items c.args.goroutine.number refl c.in_default.ensures.item.3)
