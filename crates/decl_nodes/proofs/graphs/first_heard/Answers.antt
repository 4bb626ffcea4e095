use Rattle.decl_nodes.proofs.graphs.first_heard.Goals as goal

pub components_of-requires : goal.components_of-requires
components_of-requires c = c.is_graph.ensures.0 c.if-not-is_graph.false

pub on_themselves-requires-clause-graph : goal.on_themselves-requires-clause-graph
on_themselves-requires-clause-graph c = c.is_graph.ensures.0 c.if-not-is_graph.false

pub first_unsilenced-requires-clause-graph : goal.first_unsilenced-requires-clause-graph
first_unsilenced-requires-clause-graph c = c.is_graph.ensures.0 c.if-not-is_graph.false

pub first_unsilenced-requires-clause-faults : goal.first_unsilenced-requires-clause-faults
first_unsilenced-requires-clause-faults c = c.are_at_nodes.ensures.0 c.if-not-are_at_nodes.false
