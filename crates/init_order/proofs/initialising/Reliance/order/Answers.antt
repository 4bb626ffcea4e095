use Rattle.std.proofs.Common.{◌≡◌, ◌≤◌, ◌+◌, ◌-◌, ◌∙◌, length, take, drop, sym, ap, subst, arith}
use Rattle.go_graph.specs.Graph.{IsGraph, AreComponents}
use Rattle.init_order.specs.Naming.{Naming}
use Rattle.init_order.specs.Groups.{AreGroupEdges}
use Rattle.init_order.specs.Taking.{AreLabels}
use Rattle.init_order.proofs.RowLaws.{rows_of}
use Rattle.init_order.proofs.Parts.{each_other, are_parts}
use Rattle.init_order.proofs.Whole.{length_part}
use Rattle.init_order.proofs.initialising.Reliance.order.Goals as goal

pub components_of-requires : goal.components_of-requires
components_of-requires c = subst (λ l. IsGraph (rows_of l)) (sym c.as_slice-graph.ensures.value) c.self.invariant.1

pub group_edges-requires-clause-graph : goal.group_edges-requires-clause-graph
group_edges-requires-clause-graph c = subst (λ l. IsGraph (rows_of l)) (sym c.as_slice-graph.ensures.value) c.self.invariant.1

pub returns-in_default : goal.returns-in_default
returns-in_default c =
    rw (← c.self.view_is) (
    let s = c.self.inside in
    let of = c.in_ok-components.components.of.items in
    let order = c.in_ok-components.components.order.items in
    let names : Naming = record { variables = s.variables; steps = s.steps; functions = s.functions; rows = rows_of s.graph.items } in
    let components : AreComponents names.rows of order = subst (λ l. AreComponents (rows_of l) of order) c.as_slice-graph.ensures.value c.in_ok-components.ensures in
    let whole = c.self.invariant.0 in
    let room : names.variables + names.steps ≤ length names.rows = omega arith in
    let minus : s.variables + s.steps - s.variables ≡ s.steps = omega arith in
    let is : take (s.variables + s.steps - s.variables) (drop s.variables c.deref.result.now) ≡ take s.steps (drop s.variables of) =
    ap (λ n. take n (drop s.variables c.deref.result.now)) minus ∙ ap (λ l. take s.steps (drop s.variables l)) c.deref.ensures.value in
    let sizes = components.sizes in
    let size = ap length is ∙ length_part of s.variables s.steps (omega arith) in
    each_other names of order (take (s.variables + s.steps - s.variables) (drop s.variables c.deref.result.now)) components room is size (rw c.in_default.is at c.in_ok-labels.ensures.labels)
    )

pub take_all-requires-clause-parts : goal.take_all-requires-clause-parts
take_all-requires-clause-parts c =
    rw (← c.self.view_is) (
    let s = c.self.inside in
    let of = c.in_ok-components.components.of.items in
    let order = c.in_ok-components.components.order.items in
    let names : Naming = record { variables = s.variables; steps = s.steps; functions = s.functions; rows = rows_of s.graph.items } in
    let components : AreComponents names.rows of order = subst (λ l. AreComponents (rows_of l) of order) c.as_slice-graph.ensures.value c.in_ok-components.ensures in
    let whole = c.self.invariant.0 in
    let room : names.variables + names.steps ≤ length names.rows = omega arith in
    let minus : s.variables + s.steps - s.variables ≡ s.steps = omega arith in
    let is : take (s.variables + s.steps - s.variables) (drop s.variables c.deref.result.now) ≡ take s.steps (drop s.variables of) =
    ap (λ n. take n (drop s.variables c.deref.result.now)) minus ∙ ap (λ l. take s.steps (drop s.variables l)) c.deref.ensures.value in
    let sizes = components.sizes in
    let size = ap length is ∙ length_part of s.variables s.steps (omega arith) in
    let edges : AreGroupEdges names.rows of c.deref-3.result.now = subst (AreGroupEdges names.rows of) (sym c.deref-3.ensures.value)
    (subst (λ l. AreGroupEdges names.rows l c.in_ok-edges.edges.items) c.deref-2.ensures.value (subst (λ l. AreGroupEdges (rows_of l) c.deref-2.result.now c.in_ok-edges.edges.items) c.as_slice-graph.ensures.value c.in_ok-edges.ensures)) in
    let groups = take (s.variables + s.steps - s.variables) (drop s.variables c.deref.result.now) in
    let labels : AreLabels groups (length groups) c.deref-4.result.now = subst (AreLabels groups (length groups)) (sym c.deref-4.ensures.value) (rw c.in-Some.is at c.in_ok-labels.ensures.labels) in
    are_parts names of order groups components room is size c.deref-3.result.now c.deref-4.result.now c.self.invariant.1 edges labels
    )
