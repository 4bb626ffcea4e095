use Rattle.std.proofs.Common.{rules}
use Rattle.std.specs.Cmp.{IsTotalOrder}
use Rattle.std.specs.Cmp.Rules.{comparing}
use Rattle.std.proofs.lemmas.Cmp.{nat_cmp_total, on_total, then_total}
use Rattle.std.proofs.lemmas.List.Filters.{dedup_is}
use Rattle.std.proofs.lemmas.List.Kept.{Contains-dedup, Contains-from_dedup, IsStrictlySortedBy-dedup}
use Rattle.std.proofs.lemmas.List.Sorted.{Contains-permutation, IsPermutation-sym}
use Rattle.go_base.specs.declared.place.Pos.{Pos}
use Rattle.cg_sets.specs.InOrder.{edge_cmp}
use Rattle.cg_sets.specs.declared.edges.Edge.{Edge}
use Rattle.cg_sets.proofs.edges.Edges.in_order.Goals as goal

edge_cmp-total : IsTotalOrder edge_cmp
edge_cmp-total =
    then_total (on_total (λ (e : Edge). e.caller.number) nat_cmp_total)
    (then_total (on_total (λ (e : Edge). e.site) (then_total (on_total (λ (p : Pos). p.file) nat_cmp_total) (on_total (λ (p : Pos). p.offset) nat_cmp_total))) (on_total (λ (e : Edge). e.callee.number) nat_cmp_total))

pub returns-clause-ascending : goal.returns-clause-ascending
returns-clause-ascending c = rw (dedup_is _ _ _ c.dedup.ensures.filtered) (IsStrictlySortedBy-dedup edge_cmp-total (λ x y. search (comparing, rules)) _ c.in_ok-sort.ensures.sorted)

pub returns-clause-members : goal.returns-clause-members
returns-clause-members c = λ e.
    let is = dedup_is _ _ _ c.dedup.ensures.filtered in
    let moved = c.in_ok-sort.ensures.permutation in (
      λ h. Contains-permutation _ _ e (IsPermutation-sym _ _ moved) (Contains-from_dedup _ _ e (rw is at h)),
      λ h. rw is (Contains-dedup (search (comparing, rules)) (λ x y. search (comparing, rules)) _ e (Contains-permutation _ _ e moved h)),
    )
