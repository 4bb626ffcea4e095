use Rattle.std.proofs.Common.{◌≡◌, ◌+◌, ◌++◌, ◌∷◌, [], ◌∙◌, ap, sym, subst, ℕ, List, length, arith}
use Rattle.std.proofs.lemmas.List.{map-append}
use Rattle.go_base.specs.declared.ids.ChanId.{ChanId}
use Rattle.go_sched.specs.Goroutines.{state_of}
use Rattle.go_sched.specs.Standing.{AreHeld, lists_of, Rises}
use Rattle.go_sched.proofs.Ascending.{pigeons, Rises-push}
use Rattle.go_sched.proofs.Held.{AreHeld-goroutine}
use Rattle.go_sched.proofs.scheduling.Sched.spawn.Goals as goal

pub push_reserved-requires : goal.push_reserved-requires
push_reserved-requires c =
    let s = c.args.self.now in
    let few = pigeons 0 (length s.waits.items) s.runnable.items s.ascending in
    omega (arith, few, s.waits.ok.0, s.waits.ok.1, s.waits.small, s.runnable.ok.0, c.len.ensures, c.len-2.ensures, c.saturating_add.ensures, c.saturating_sub-more.ensures, c.in_ok-reserve.ensures.ok, c.reserve.ensures.len)

pub invariant_of-self-2 : goal.invariant_of-self-2
invariant_of-self-2 c =
    let s = c.args.self.now in
    let few = pigeons 0 (length s.waits.items) s.runnable.items s.ascending in
    let one_more : length c.push.new.self.items ≡ length s.waits.items + 1 = omega (arith, c.push.new.self.ok.0, s.waits.ok.0, c.in_ok-push.ensures.len) in
    let new : c.push_reserved.new.self.items ≡ s.runnable.items ++ length s.waits.items ∷ [] =
    c.push_reserved.ensures.items ∙ ap (λ (xs : List ℕ). xs ++ c.len-number.result ∷ []) c.reserve.ensures.items ∙ ap (λ n. s.runnable.items ++ n ∷ []) (c.len-number.ensures ∙ s.waits.ok.0) in
    let lists : lists_of c.push.new.self.items ≡ lists_of s.waits.items ++ [] ∷ [] =
    ap lists_of c.in_ok-push.ensures.items ∙ map-append (λ v. v.items) s.waits.items (c.new.result ∷ []) ∙ ap (λ (i : List ChanId). lists_of s.waits.items ++ i ∷ []) c.new.ensures.items in
    record {
      ascending = subst (λ n. Rises 0 n c.push_reserved.new.self.items) (sym one_more) (subst (λ (xs : List ℕ). Rises 0 (length s.waits.items + 1) xs) (sym new) (Rises-push 0 (length s.waits.items) s.runnable.items s.ascending));
      room = omega (arith, few, one_more, s.waits.ok.0, s.waits.ok.1, s.waits.small, s.runnable.ok.0, c.len.ensures, c.len-2.ensures, c.saturating_add.ensures, c.saturating_sub-more.ensures, c.in_ok-reserve.ensures.ok, c.reserve.ensures.len, c.push_reserved.ensures.capacity);
      standing = subst (λ (ws : List (List ChanId)). AreHeld (state_of s).channels ws) (sym lists) (AreHeld-goroutine (state_of s).channels (lists_of s.waits.items) s.standing);
    }
