-- The groups of what names what, and their steps.
use Rattle.std.proofs.Common.{◌≡◌, ◌≢◌, ◌<◌, ◌≤◌, ◌+◌, ◌∙◌, ℕ, List, Option, None, length, take, drop, sym, ap, arith}
use Rattle.std.specs.Prelude.{slice_index, slice_index_or}
use Rattle.go_graph.specs.Graph.{IsGraph, AreComponents}
use Rattle.init_order.specs.declared.edges.Edge.{Edge}
use Rattle.init_order.specs.Naming.{Naming}
use Rattle.init_order.specs.Order.{StandOnEachOther}
use Rattle.init_order.specs.Groups.{AreGroupEdges}
use Rattle.init_order.specs.Taking.{AreLabels, HaveOneGroup, AreParts}
use Rattle.init_order.proofs.Taken.{first_step}
use Rattle.init_order.proofs.Whole.{index_group}

module _ (names : Naming) (of order groups : List ℕ) (components : AreComponents names.rows of order) (room : names.variables + names.steps ≤ length names.rows)
    (is : groups ≡ take names.steps (drop names.variables of)) (size : length groups ≡ names.steps) where
  at : (s : ℕ) → s < names.steps → slice_index groups s ≡ slice_index of (names.variables + s)
  at s less = ap (λ l. slice_index l s) is ∙ index_group of names.variables names.steps s less

  pub groups_below : (s : ℕ) → s < length groups → slice_index groups s < length order
  groups_below s less =
      let low : s < names.steps = omega arith in
      let bound = components.within (names.variables + s) (omega arith) in
      let same = at s low in
      omega arith

  pub each_other : HaveOneGroup groups → StandOnEachOther names
  each_other h =
      let t_less : h.t < names.steps = (let a = h.second in omega arith) in
      let s_less : h.s < names.steps = (let a = h.first in omega arith) in
      let one : slice_index of (names.variables + h.s) ≡ slice_index of (names.variables + h.t) = sym (at h.s s_less) ∙ h.one ∙ at h.t t_less in
      let apart : names.variables + h.s ≢ names.variables + h.t = λ e. (let a = h.first in omega arith) in
      record {
        s = h.s;
        t = h.t;
        first = s_less;
        second = t_less;
        differ = λ e. (let a = h.first in omega arith);
        there = first_step (components.together (names.variables + h.s) (names.variables + h.t) (omega arith) (omega arith) one) apart;
        back = first_step (components.together (names.variables + h.t) (names.variables + h.s) (omega arith) (omega arith) (sym one)) (λ e. apart (sym e));
      }

  pub are_parts : (edges : List Edge) (labels : List (Option ℕ)) → IsGraph names.rows → AreGroupEdges names.rows of edges → AreLabels groups (length groups) labels
      → AreParts names of order edges (λ g. slice_index_or labels g None)
  are_parts edges labels graph group_edges are =
      record {
        graph = graph;
        components = components;
        group_edges = group_edges;
        room = room;
        labels = λ s less. ap (λ g. slice_index_or labels g None) (sym (at s less)) ∙ are.there s (omega arith);
        of_label = λ g s h. (let old = are.back g s h in let less : s < names.steps = (let a = old.0 in omega arith) in (less, sym (at s less) ∙ old.1));
      }
