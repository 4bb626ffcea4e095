use Rattle.std.proofs.Common.{◌∙◌, ap, sym}
use Rattle.decl_nodes.proofs.Rows.{rows_of}
use Rattle.decl_rules.proofs.Circles.{have_edges, with_all}
use Rattle.decl_rules.proofs.Loops.{drop_all}
use Rattle.decl_rules.proofs.edges.graph_of.Goals as goal

pub returns : goal.returns
returns c =
    let rows = rows_of c.loop-edge.graph.items in
    have_edges c.args.count c.args.edges.now rows (ap (λ l. with_all l rows) (sym (drop_all c.args.edges.now c.loop-edge.edge-index c.loop-edge-test.false)) ∙ c.loop-edge.invariant)
