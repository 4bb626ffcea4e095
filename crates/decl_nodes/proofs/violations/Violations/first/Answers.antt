use Rattle.std.proofs.Common.{◌≡◌, ◌∙◌, List, ap, map, rules, slice_get, subst}
use Rattle.std.specs.Fn.{Called, ComputesKey}
use Rattle.std.specs.List.Sorted.{IsSortedBy, IsSortedByKey}
use Rattle.std.specs.Ordering.{is_lt, nat_cmp, ordering_then}
use Rattle.std.specs.declared.cmp.Ordering.{Ordering}
use Rattle.std.proofs.lemmas.Fn.{always_returns_same}
use denote.Ref.{Bor}
use denote.Param.Members.{Mut}
use Rattle.go_base.specs.Rules.{row_of}
use Rattle.go_graph.specs.Graph.{next}
use Rattle.go_graph.specs.Silence.{IsFirst}
use Rattle.decl_nodes.specs.declared.violations.Rank.{Rank}
use Rattle.decl_nodes.specs.declared.violations.Violation.{Violation}
use Rattle.decl_nodes.specs.Violated.{fault_of, pos_cmp, violation_cmp}
use Rattle.decl_nodes.proofs.Hearing.{broken_or_none}
use Rattle.decl_nodes.proofs.violations.Violations.first.Goals as goal

abbrev rank : Violation → Rank
rank v = record { «package» = v.package; at = v.at; row = row_of v.rule }

abbrev rank_cmp : Rank → Rank → Ordering
rank_cmp a b = ordering_then (nat_cmp a.package b.package) (ordering_then (pos_cmp a.at b.at) (nat_cmp a.row b.row))

-- what the sort ensures, where each call gives the rank of the violation
ascends : {F : Type 0} {g : Mut F (Bor Violation × Unit {0}) Rank} {f : F} (xs : List Violation) → ((key : Violation → Rank) → ComputesKey g key f → IsSortedByKey key rank_cmp xs)
    → ((a : Bor Violation × Unit {0}) (r : Rank) (f' : F) → Called g f a r f' → (r ≡ rank a.0.now) × (f' ≡ f)) → IsSortedBy (λ v w. is_lt (violation_cmp v w)) xs
ascends {g = g} {f = f} xs up h = up rank (always_returns_same g (λ a r. r ≡ rank a.0.now) f h)

pub returns : goal.returns
returns c =
    let old = c.self.inside.items.items in
    let sorted = c.sort_by_key.new.self.items in
    let faults = c.as_slice-2.ensures.value ∙ c.in_ok-faults.ensures ∙ ap (map fault_of) c.as_slice.ensures.value in
    let first : IsFirst (next c.args.nodes.now.edges) (map fault_of sorted) c.in-Some.index =
    subst (λ rows. IsFirst (next rows) (map fault_of sorted) c.in-Some.index) c.edges.ensures
    (subst (λ fs. IsFirst (next (map (λ r. r.items) c.edges.result.now)) fs c.in-Some.index) faults (rw c.in-Some.is at c.in_ok-index.ensures)) in
    let found : c.violation_at.result ≡ slice_get sorted c.in-Some.index = c.violation_at.ensures ∙ ap (λ (l : List Violation). slice_get l c.in-Some.index) c.as_slice-3.ensures.value in
    rw (found, ← c.self.view_is)
    (broken_or_none (next c.args.nodes.now.edges) old sorted c.in_ok-sort_by_key.ensures.permutation (ascends sorted c.in_ok-sort_by_key.ensures.sorted (λ a r f k. search rules)) c.in-Some.index first)
