use Rattle.decl_nodes.proofs.Rows.{one_row_more}
use Rattle.decl_nodes.proofs.graphs.no_edges.Goals as goal

pub loop-made-preserved : goal.loop-made-preserved
loop-made-preserved c = one_row_more c.loop-made.graph.items c.push.new.self.items c.new.result c.loop-made.made c.loop-made.invariant c.in_ok-push.ensures.items c.new.ensures.items
