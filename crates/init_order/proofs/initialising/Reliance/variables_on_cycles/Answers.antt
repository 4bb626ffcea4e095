use Rattle.std.proofs.Common.{sym, subst}
use Rattle.go_graph.specs.Graph.{IsGraph}
use Rattle.init_order.proofs.RowLaws.{rows_of}
use Rattle.init_order.proofs.initialising.Reliance.variables_on_cycles.Goals as goal

pub components_of-requires : goal.components_of-requires
components_of-requires c = subst (λ l. IsGraph (rows_of l)) (sym c.as_slice-graph.ensures.value) c.self.invariant.1

pub on_themselves-requires-clause-graph : goal.on_themselves-requires-clause-graph
on_themselves-requires-clause-graph c = subst (λ l. IsGraph (rows_of l)) (sym c.as_slice-graph.ensures.value) c.self.invariant.1
