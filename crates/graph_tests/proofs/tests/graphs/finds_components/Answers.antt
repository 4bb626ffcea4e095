use Rattle.graph_tests.proofs.tests.graphs.finds_components.Goals as goal

pub components_of-requires : goal.components_of-requires
components_of-requires g c = c.is_graph.ensures.0 c.if-not-is_graph.false
