use Rattle.std.proofs.Common.{◌≡◌, ◌∙◌, List, ℕ, Bool, Vec, Global, ap, length, map, sym}
use Rattle.std.proofs.lemmas.List.{length-map}
use Rattle.go_graph.specs.Marks.{AreMarks, ReachesMark, marked}
use Rattle.decl_nodes.proofs.Rows.{if_ok, node_marks, rows_of}
use Rattle.decl_nodes.proofs.graphs.reach_marked.Goals as goal

pub components_of-requires : goal.components_of-requires
components_of-requires c = c.is_graph.ensures.0 c.if-not-is_graph.false

pub reaching-requires-clause-graph : goal.reaching-requires-clause-graph
reaching-requires-clause-graph c = c.is_graph.ensures.0 c.if-not-is_graph.false

pub returns : goal.returns
returns c =
    let rows = rows_of c.args.graph.now in
    let of = c.in_ok-components.components.of.items in
    let order = c.in_ok-components.components.order.items in
    let flags = c.in_ok-flags.flags.items in
    let size = length-map c.args.graph.now (λ (r : Vec ℕ Global). r.items) in
    let read : map (marked c.as_slice-2.result.now) c.as_slice.result.now ≡ map (marked flags) of =
    ap (λ (l : List Bool). map (marked l) c.as_slice.result.now) c.as_slice-2.ensures.value ∙ ap (map (marked flags)) c.as_slice.ensures.value in
    if_ok {P = λ (v : Vec Bool Global). v.items ≡ map (marked c.as_slice-2.result.now) c.as_slice.result.now} {Q = λ (v : Vec Bool Global). AreMarks (length c.args.graph.now) (ReachesMark rows c.args.marks.now) v.items}
    c.spread.result c.spread.ensures
    (λ v is. node_marks rows of order c.args.marks.now flags v.items (length c.args.graph.now) c.in_ok-components.ensures c.in_ok-flags.ensures (is ∙ read) (sym size))
