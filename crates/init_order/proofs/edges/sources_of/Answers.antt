use Rattle.std.proofs.Common.{◌∙◌, ◌++◌, ◌∷◌, [], ℕ, get_or, ap, Vec, Global, arith}
use Rattle.std.proofs.Math.ListN.{set}
use Rattle.std.proofs.lemmas.List.{with_items_is, length-map}
use Rattle.go_graph.specs.Graph.{next}
use Rattle.init_order.specs.declared.edges.Edge.{Edge}
use Rattle.init_order.proofs.RowLaws.{rows_of}
use Rattle.init_order.proofs.EdgeLists.{edge_at, source_more}
use Rattle.init_order.proofs.edges.sources_of.Goals as goal

pub push_number-requires : goal.push_number-requires
push_number-requires c =
    let bound = c.requires _ (edge_at c.args.edges.now c.loop-edge.edge-index (record { leaves = 0; enters = 0 }) c.loop-edge-test.true) in
    let less = bound.1 in
    let size = c.loop-edge.invariant.size in
    let len = c.deref_mut.ensures.len in
    omega arith

pub loop-edge-preserved : goal.loop-edge-preserved
loop-edge-preserved c =
    let d : Edge = record { leaves = 0; enters = 0 } in
    let e : Edge = get_or c.args.edges.now c.loop-edge.edge-index d in
    let bound = c.requires e (edge_at c.args.edges.now c.loop-edge.edge-index d c.loop-edge-test.true) in
    let low = bound.1 in
    let size = c.loop-edge.invariant.size in
    let ok = c.loop-edge.rows.ok.0 in
    let count = length-map c.loop-edge.rows.items (λ (r : Vec ℕ Global). r.items) in
    let back = with_items_is c.loop-edge.rows c.push_number.new.rows (c.push_number.auto.rows ∙ c.deref_mut.ensures.len) in
    let pushed = c.in_ok-push_number.ensures.pushed ∙ ap (λ l. set (rows_of l) e.enters (next (rows_of l) e.enters ++ e.leaves ∷ [])) c.deref_mut.ensures.value in
    record {
      size = c.loop-edge.invariant.size;
      so_far = source_more c.args.edges.now c.loop-edge.edge-index d (rows_of c.loop-edge.rows.items) _ c.args.count c.loop-edge-test.true (omega arith) (ap rows_of back ∙ pushed) c.loop-edge.invariant.so_far;
    }
