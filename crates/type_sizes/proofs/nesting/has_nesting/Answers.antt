use Rattle.std.proofs.Common.{◌∙◌, sym, ap, subst, ℕ, List, Bool, not, Vec, Global, length, map, arith}
use Rattle.std.proofs.lemmas.List.{length-map}
use Rattle.go_graph.specs.Graph.{IsGraph, StandsOn, next, AreComponents}
use Rattle.go_graph.specs.Marks.{marked, AreMarks, AreReaching}
use Rattle.go_graph.proofs.MarkLaws.{index_read}
use Rattle.type_sizes.proofs.Nested.{is_graph, first_within, nesting, marked_read}
use Rattle.type_sizes.proofs.nesting.has_nesting.Goals as goal

pub components_of-requires : goal.components_of-requires
components_of-requires c =
    subst (λ (g : List (Vec ℕ Global)). IsGraph (map (λ r. r.items) g)) (sym c.as_slice.ensures.value)
    (is_graph c.args.types.now c.args.id (map (λ (r : Vec ℕ Global). r.items) c.in_ok-graph.graph.items) c.in_ok-graph.ensures)

pub on_themselves-requires-clause-graph : goal.on_themselves-requires-clause-graph
on_themselves-requires-clause-graph c =
    subst (λ (g : List (Vec ℕ Global)). IsGraph (map (λ r. r.items) g)) (sym c.as_slice-2.ensures.value)
    (is_graph c.args.types.now c.args.id (map (λ (r : Vec ℕ Global). r.items) c.in_ok-graph.graph.items) c.in_ok-graph.ensures)

pub reaching-requires-clause-graph : goal.reaching-requires-clause-graph
reaching-requires-clause-graph c =
    subst (λ (g : List (Vec ℕ Global)). IsGraph (map (λ r. r.items) g)) (sym c.as_slice-3.ensures.value)
    (is_graph c.args.types.now c.args.id (map (λ (r : Vec ℕ Global). r.items) c.in_ok-graph.graph.items) c.in_ok-graph.ensures)

pub index-requires-2 : goal.index-requires-2
index-requires-2 c =
    let rows = map (λ (r : Vec ℕ Global). r.items) c.in_ok-graph.graph.items in
    let of = c.in_ok-components.components.of.items in
    let order = c.in_ok-components.components.order.items in
    let components = subst (λ (g : List (Vec ℕ Global)). AreComponents (map (λ r. r.items) g) of order) c.as_slice.ensures.value c.in_ok-components.ensures in
    let first = first_within c.args.types.now c.args.id rows c.in_ok-graph.ensures in
    let node = index_read of 0 c.index.result.now (let size = components.sizes in omega arith) c.index.ensures in
    let within = components.within 0 first in
    let size = (c.in_ok-endless.ensures).size in
    omega (arith, c.in_ok-endless.endless.ok.0)

pub returns : goal.returns
returns c =
    let rows = map (λ (r : Vec ℕ Global). r.items) c.in_ok-graph.graph.items in
    let of = c.in_ok-components.components.of.items in
    let order = c.in_ok-components.components.order.items in
    let marks = c.in_ok-marks.marks.items in
    let flags = c.in_ok-endless.endless.items in
    let components = subst (λ (g : List (Vec ℕ Global)). AreComponents (map (λ r. r.items) g) of order) c.as_slice.ensures.value c.in_ok-components.ensures in
    let standing =
    subst (λ (n : ℕ). AreMarks n (λ x. StandsOn (next rows) x x) marks) (sym (length-map c.in_ok-graph.graph.items (λ (r : Vec ℕ Global). r.items)))
    (subst (λ (g : List (Vec ℕ Global)). AreMarks (length g) (λ x. StandsOn (next (map (λ r. r.items) g)) x x) marks) c.as_slice-2.ensures.value c.in_ok-marks.ensures) in
    let reaching =
    subst (λ (m : List Bool). AreReaching rows of order m flags) c.as_slice-4.ensures.value
    (subst (λ (g : List (Vec ℕ Global)). AreReaching (map (λ r. r.items) g) of order c.as_slice-4.result.now flags) c.as_slice-3.ensures.value c.in_ok-endless.ensures) in
    let first = first_within c.args.types.now c.args.id rows c.in_ok-graph.ensures in
    let node = index_read of 0 c.index.result.now (let size = components.sizes in omega arith) c.index.ensures in
    let within = components.within 0 first in
    let size = reaching.size in
    let flag = marked_read flags c.index.result.now c.index-2.result.now (omega arith) c.index-2.ensures in
    nesting c.args.types.now c.args.id rows c.in_ok-graph.ensures of order components marks flags (not c.index-2.result.now) standing reaching (ap not (flag ∙ ap (marked flags) node))
