use Rattle.std.proofs.Common.{◌∙◌, ap, sym, subst, arith, ℕ, List, length}
use Rattle.std.specs.Prelude.{slice_get}
use Rattle.std.specs.List.{remove}
use Rattle.std.proofs.lemmas.Bool.{false≢true}
use Rattle.go_sched.specs.Goroutines.{state_of}
use Rattle.go_sched.specs.Standing.{Rises}
use Rattle.go_sched.proofs.Ascending.{removed_there, removed_absent, Rises-removed}
use Rattle.go_sched.proofs.scheduling.Sched.stop.Goals as goal

pub invariant_of-self : goal.invariant_of-self
invariant_of-self c =
    let s = c.args.self.now in
    let n = s.current.number in
    let xs = s.runnable.items in
    let there = ap (slice_get xs) (sym c.place-place.ensures) ∙ c.is_at.ensures.0 c.if-is_at.true in
    let new = c.remove.ensures.items ∙ ap (remove xs) c.place-place.ensures ∙ removed_there n 0 (length s.waits.items) xs s.ascending there in
    record {
      ascending = subst (λ (ys : List ℕ). Rises 0 (length s.waits.items) ys) (sym new) (Rises-removed n 0 (length s.waits.items) xs s.ascending);
      room = omega (arith, s.room, c.remove.ensures.capacity);
      standing = s.standing;
    }

pub returns-then-is_at : goal.returns-then-is_at
returns-then-is_at c =
    let s = c.args.self.now in
    let n = s.current.number in
    let xs = s.runnable.items in
    let there = ap (slice_get xs) (sym c.place-place.ensures) ∙ c.is_at.ensures.0 c.if-is_at.true in
    ap (λ (ys : List ℕ). record (state_of s) { runnable = ys })
    (c.remove.ensures.items ∙ ap (remove xs) c.place-place.ensures ∙ removed_there n 0 (length s.waits.items) xs s.ascending there)

pub returns-else-is_at : goal.returns-else-is_at
returns-else-is_at c =
    let s = c.args.self.now in
    let n = s.current.number in
    let xs = s.runnable.items in
    ap (λ (ys : List ℕ). record (state_of s) { runnable = ys })
    (sym (removed_absent n 0 (length s.waits.items) xs s.ascending (λ there. false≢true (sym c.if-is_at.false ∙ c.is_at.ensures.1 (ap (slice_get xs) c.place-place.ensures ∙ there)))))
