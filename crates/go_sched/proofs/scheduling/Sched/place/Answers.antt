use Rattle.std.proofs.Common.{ltb, rules, ap, sym, subst, ◌∙◌, length, ℕ, List}
use Rattle.std.proofs.lemmas.List.Sorted.{IsPartitionPoint-from_clause, IsPartitionedBy-ltb}
use Rattle.go_sched.specs.Goroutines.{below}
use Rattle.go_sched.specs.Standing.{Rises}
use Rattle.go_sched.proofs.Ascending.{partition_count, Rises-order}
use Rattle.go_sched.proofs.scheduling.Sched.place.Goals as goal

pub returns : goal.returns
returns c =
    let n = c.args.goroutine.number in
    let s = c.args.self.now in
    let xs = c.as_slice.result.now in
    let rises : Rises 0 (length s.waits.items) xs = subst (λ (ys : List ℕ). Rises 0 (length s.waits.items) ys) (sym c.as_slice.ensures.value) s.ascending in
    let parted = IsPartitionedBy-ltb (λ x. x) xs n (Rises-order 0 (length s.waits.items) xs rises) in
    let point = IsPartitionPoint-from_clause (λ x. ltb x n) xs _ c.partition_point.ensures.partitioned parted (λ a r q k. search rules) in
    partition_count (λ x. ltb x n) xs c.partition_point.result c.partition_point.ensures.bound point.0 point.1 ∙ ap (below n) c.as_slice.ensures.value
