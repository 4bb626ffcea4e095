use Rattle.graph_tests.proofs.tests.graphs.marks_nodes.Goals as goal

pub components_of-requires : goal.components_of-requires
components_of-requires g c = c.is_graph.ensures.0 c.if-not-is_graph.false

pub on_themselves-requires-clause-graph : goal.on_themselves-requires-clause-graph
on_themselves-requires-clause-graph g c = c.is_graph.ensures.0 c.if-not-is_graph.false

pub reaching-requires-clause-graph : goal.reaching-requires-clause-graph
reaching-requires-clause-graph g c = c.is_graph.ensures.0 c.if-not-is_graph.false
