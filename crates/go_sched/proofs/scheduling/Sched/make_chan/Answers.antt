use Rattle.std.proofs.Common.{◌∙◌, ap, sym, subst, refl, map, List, ◌++◌, ◌∷◌, []}
use Rattle.std.proofs.lemmas.List.{map-append}
use Rattle.go_sched.specs.Channels.{Chan, chan_of, empty_chan}
use Rattle.go_sched.specs.Standing.{AreHeld, lists_of}
use Rattle.go_sched.proofs.Changes.{pushed}
use Rattle.go_sched.proofs.Held.{AreHeld-chan}
use Rattle.go_sched.proofs.scheduling.Sched.make_chan.Goals as goal

pub invariant_of-self : goal.invariant_of-self
invariant_of-self c =
    let s = c.args.self.now in
    let waits = lists_of s.waits.items in
    let one_more = map-append chan_of s.channels.items (c.new.result ∷ []) ∙ ap (λ (it : Chan). map chan_of s.channels.items ++ it ∷ []) c.new.ensures in
    record {
      ascending = s.ascending;
      room = s.room;
      standing = pushed c.push.result (s.channels.items ++ c.new.result ∷ []) s.channels.items c.push.new.self.items c.push.ensures.items
          (λ more. subst (λ (cs : List Chan). AreHeld cs waits) (sym (ap (map chan_of) more ∙ one_more)) (AreHeld-chan (map chan_of s.channels.items) waits (empty_chan c.args.size) s.standing (λ n. refl)))
          (λ same. subst (λ (cs : List Chan). AreHeld cs waits) (sym (ap (map chan_of) same)) s.standing);
    }
