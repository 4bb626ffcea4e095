use Rattle.std.proofs.Common.{◌≡◌, ◌++◌, leb, ltb, rules, ap, sym, subst, ◌∙◌, length, take, List, ℕ}
use Rattle.std.specs.List.{filter}
use Rattle.std.proofs.lemmas.List.Sorted.{IsPartitionPoint-from_clause, IsPartitionedBy-leb}
use Rattle.go_sched.specs.Choices.{cyclic_after, from_place}
use Rattle.go_sched.specs.Standing.{Rises}
use Rattle.go_sched.proofs.Ascending.{split_take, split_drop, above_no, above_yes, Rises-order}
use Rattle.go_sched.proofs.scheduling.Sched.place_behind.Goals as goal

pub returns-clause-first : goal.returns-clause-first
returns-clause-first c =
    let n = c.args.goroutine.number in
    let s = c.args.self.now in
    let xs = c.as_slice.result.now in
    let i = c.partition_point.result in
    let rises : Rises 0 (length s.waits.items) xs = subst (λ (ys : List ℕ). Rises 0 (length s.waits.items) ys) (sym c.as_slice.ensures.value) s.ascending in
    let parted = IsPartitionedBy-leb (λ x. x) xs n (Rises-order 0 (length s.waits.items) xs rises) in
    let point = IsPartitionPoint-from_clause (λ x. leb x n) xs _ c.partition_point.ensures.partitioned parted (λ a r q k. search rules) in
    let split : from_place i xs ≡ cyclic_after n xs =
    ap (λ (ys : List ℕ). ys ++ take i xs) (split_drop (λ x. leb x n) (λ x. ltb n x) (above_no n) (above_yes n) xs i c.partition_point.ensures.bound point.0 point.1)
    ∙ ap (λ (ys : List ℕ). filter (λ x. ltb n x) xs ++ ys) (split_take (λ x. leb x n) xs i c.partition_point.ensures.bound point.0 point.1) in
    subst (λ (ys : List ℕ). from_place i ys ≡ cyclic_after n ys) c.as_slice.ensures.value split
