use Rattle.std.proofs.Common.{◌∙◌, ◌++◌, ◌<◌, ℕ, List, length, slice_index, sym, ap, subst, All, Vec, Global, arith}
use Rattle.std.proofs.lemmas.List.{length-map}
use Rattle.go_graph.proofs.Ends.{row_read}
use Rattle.init_order.specs.Groups.{edges_to}
use Rattle.init_order.proofs.RowLaws.{rows_of}
use Rattle.init_order.proofs.EdgeLists.{node_more, all_below, targets_in}
use Rattle.init_order.proofs.edges.group_edges.Goals as goal

pub push_edges-requires : goal.push_edges-requires
push_edges-requires c =
    let rows = rows_of c.args.graph.now in
    let row = c.deref.ensures.value ∙ row_read c.args.graph.now c.loop-node.node c.index-graph-node.result c.loop-node-test.true c.index-graph-node.is in
    subst (λ (xs : List ℕ). All (λ y. y < length c.args.of.now) xs) (sym row)
    (targets_in rows c.args.of.now c.loop-node.node c.requires.graph (c.requires.size ∙ sym (length-map c.args.graph.now (λ (r : Vec ℕ Global). r.items))))

pub loop-node-preserved : goal.loop-node-preserved
loop-node-preserved c =
    let rows = rows_of c.args.graph.now in
    let row = c.deref.ensures.value ∙ row_read c.args.graph.now c.loop-node.node c.index-graph-node.result c.loop-node-test.true c.index-graph-node.is in
    node_more rows c.args.of.now c.loop-node.node c.loop-node.edges.items c.push_edges.new.edges.items c.loop-node.invariant
    (c.in_ok-push_edges.ensures ∙ ap (λ l. c.loop-node.edges.items ++ edges_to c.args.of.now (slice_index c.args.of.now c.loop-node.node) l) row)

pub returns : goal.returns
returns c =
    let size = length-map c.args.graph.now (λ (r : Vec ℕ Global). r.items) in
    let end = c.loop-node-test.false in
    all_below (rows_of c.args.graph.now) c.args.of.now c.loop-node.node c.loop-node.edges.items c.loop-node.invariant (omega arith)
