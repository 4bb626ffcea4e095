use Rattle.std.proofs.Common.{◌<◌, sym, subst, refl, List, ◌++◌, ◌∷◌, []}
use Rattle.std.specs.Prelude.{slice_get}
use Rattle.go_base.specs.declared.ids.ChanId.{ChanId}
use Rattle.go_sched.specs.Goroutines.{state_of}
use Rattle.go_sched.specs.Standing.{AreHeld, lists_of, standing, waiting}
use Rattle.go_sched.proofs.Changes.{pushed, waits_there, waits_set, waits_same, ascending_set, room_set}
use Rattle.go_sched.proofs.Held.{AreHeld-wait, waits_once_more}
use Rattle.go_sched.proofs.Reached.{got}
use Rattle.go_sched.proofs.scheduling.Sched.waits_at.Goals as goal

pub invariant_of-self : goal.invariant_of-self
invariant_of-self c =
    let s = c.args.self.now in
    let g = s.current.number in
    let it = c.in-Some.waits.now in
    let at = got s.waits.items s.waits.items g it refl c.in-Some.ensures.item.3.0 c.in-Some.ensures.item.1 in
    record {
      ascending = ascending_set s g c.push.new.self;
      room = room_set s g c.push.new.self;
      standing = pushed c.push.result (it.items ++ c.args.chan ∷ []) it.items c.push.new.self.items c.push.ensures.items
          (λ more. subst (λ (ws : List (List ChanId)). AreHeld (state_of s).channels ws) (sym (waits_set s g c.push.new.self (it.items ++ c.args.chan ∷ []) more)) (AreHeld-wait (state_of s).channels (lists_of s.waits.items) c.args.chan g it.items s.standing (waits_there s g it at)))
          (λ same. subst (λ (ws : List (List ChanId)). AreHeld (state_of s).channels ws) (sym (waits_same s g it c.push.new.self at same)) s.standing);
    }

pub returns-in_ok-push-in-Some-clause-counted : goal.returns-in_ok-push-in-Some-clause-counted
returns-in_ok-push-in-Some-clause-counted c =
    let s = c.args.self.now in
    let g = s.current.number in
    let k = c.args.chan.number in
    let it = c.in-Some.waits.now in
    let at = got s.waits.items s.waits.items g it refl c.in-Some.ensures.item.3.0 c.in-Some.ensures.item.1 in
    subst (λ (ws : List (List ChanId)). standing g (slice_get (state_of s).channels k) < waiting k (slice_get ws g))
    (sym (waits_set s g c.push.new.self (it.items ++ c.args.chan ∷ []) c.in_ok-push-in-Some.ensures.items))
    (waits_once_more (state_of s).channels (lists_of s.waits.items) c.args.chan g it.items s.standing (waits_there s g it at))
