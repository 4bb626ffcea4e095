use Rattle.std.proofs.Common.{◌≡◌, ◌≢◌, ◌∙◌, ap, sym, subst, arith, ℕ, List, length, Some, Result, OnErr, ◌<◌, ◌≤◌}
use Rattle.std.specs.Prelude.{slice_get}
use Rattle.std.specs.List.{insert}
use Rattle.std.proofs.lemmas.Bool.{false≢true}
use Rattle.go_sched.specs.Goroutines.{state_of, below, inserted}
use Rattle.go_sched.specs.Standing.{Rises}
use Rattle.go_sched.proofs.Ascending.{below_within, room_for_one, inserted_absent, inserted_there, Rises-inserted}
use Rattle.std.specs.Prelude.{if◌then◌else◌}
use Rattle.std.specs.Result.{is_ok}
use Rattle.std.specs.Vec.{vec_len, vec_capacity}
use Rattle.go_sched.specs.declared.scheduling.Sched.{Sched}
use Rattle.go_sched.proofs.Changes.{pushed_in}
use Rattle.go_sched.proofs.scheduling.Sched.start.Goals as goal

pub insert-requires : goal.insert-requires
insert-requires c =
    let s = c.args.self.now in
    let le = below_within c.args.goroutine.number s.runnable.items in
    omega (arith, le, c.place-place.ensures, s.runnable.ok.0)

new_list : {A E : Type 0} (s : Sched) (n place len : ℕ) (new : List ℕ) (r : Result A E) → n < length s.waits.items → place ≡ below n s.runnable.items → (slice_get s.runnable.items place ≡ Some n → ⊥) → len ≡ length s.runnable.items → new ≡ (if is_ok r then insert s.runnable.items place n else s.runnable.items) → OnErr r (vec_capacity s.runnable ≤ len) → new ≡ inserted n s.runnable.items
new_list s n place len new r lt is none counted items full =
    let xs = s.runnable.items in
    let absent : slice_get xs (below n xs) ≢ Some n = λ there. none (ap (slice_get xs) is ∙ there) in
    let room = room_for_one n (length s.waits.items) xs lt s.ascending absent in
    pushed_in r (insert xs place n) xs new len (vec_capacity s.runnable) items full (omega (arith, room, s.room)) ∙ ap (λ i. insert xs i n) is ∙ inserted_absent n 0 (length s.waits.items) xs s.ascending absent

pub invariant_of-self : goal.invariant_of-self
invariant_of-self c =
    let s = c.args.self.now in
    let n = c.args.goroutine.number in
    let xs = s.runnable.items in
    let new = new_list s n c.place-place.result (vec_len s.runnable) c.insert.new.self.items c.insert.result c.requires c.place-place.ensures (λ there. false≢true (sym c.if-not-is_at.true ∙ c.is_at.ensures.1 there)) s.runnable.ok.0 c.insert.ensures.items c.insert.ensures.full in
    record {
      ascending = subst (λ (ys : List ℕ). Rises 0 (length s.waits.items) ys) (sym new) (Rises-inserted n 0 (length s.waits.items) xs (omega arith) c.requires s.ascending);
      room = omega (arith, s.room, c.insert.ensures.capacity);
      standing = s.standing;
    }

pub returns-then-not-is_at : goal.returns-then-not-is_at
returns-then-not-is_at c =
    let s = c.args.self.now in
    ap (λ (ys : List ℕ). record (state_of s) { runnable = ys })
    (new_list s c.args.goroutine.number c.place-place.result (vec_len s.runnable) c.insert.new.self.items c.insert.result c.requires c.place-place.ensures (λ there. false≢true (sym c.if-not-is_at.true ∙ c.is_at.ensures.1 there)) s.runnable.ok.0 c.insert.ensures.items c.insert.ensures.full)

pub returns-else-not-is_at : goal.returns-else-not-is_at
returns-else-not-is_at c =
    let s = c.args.self.now in
    let n = c.args.goroutine.number in
    let xs = s.runnable.items in
    ap (λ (ys : List ℕ). record (state_of s) { runnable = ys })
    (sym (inserted_there n 0 (length s.waits.items) xs s.ascending (ap (slice_get xs) (sym c.place-place.ensures) ∙ c.is_at.ensures.0 c.if-not-is_at.false)))
