use Rattle.std.proofs.Common.{subst}
use Rattle.decl_nodes.specs.Edges.{IsOrder}
use Rattle.decl_nodes.proofs.Rows.{rows_of}
use Rattle.decl_rules.proofs.Circles.{circles}
use Rattle.decl_rules.proofs.edges.on_circles.Goals as goal

pub returns : goal.returns
returns c =
    let rows = rows_of c.in_ok-graph.graph.items in
    let order = c.in_ok-order.order in
    let ordered : IsOrder rows order.of.items order.nodes.items order.cyclic.items = subst (λ l. IsOrder (rows_of l) order.of.items order.nodes.items order.cyclic.items) c.as_slice.ensures.value c.in_ok-order.ensures in
    circles c.args.count c.args.edges.now rows c.in_ok-graph.ensures ordered.graph order.cyclic.items ordered.cyclic
