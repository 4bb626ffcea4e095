use Rattle.std.proofs.Common.{ℕ, Vec, Global, sym, subst}
use Rattle.std.proofs.lemmas.List.{length-map}
use Rattle.go_graph.specs.Graph.{StandsOn, next}
use Rattle.go_graph.specs.Marks.{AreMarks}
use Rattle.decl_nodes.proofs.Rows.{rows_of}
use Rattle.decl_nodes.proofs.graphs.order_of.Goals as goal

pub components_of-requires : goal.components_of-requires
components_of-requires c = c.is_graph.ensures.0 c.if-not-is_graph.false

pub on_themselves-requires-clause-graph : goal.on_themselves-requires-clause-graph
on_themselves-requires-clause-graph c = c.is_graph.ensures.0 c.if-not-is_graph.false

pub returns : goal.returns
returns c =
    let rows = rows_of c.args.graph.now in
    let size = length-map c.args.graph.now (λ (r : Vec ℕ Global). r.items) in
    record {
      graph = c.is_graph.ensures.0 c.if-not-is_graph.false;
      components = c.in_ok-components.ensures;
      cyclic = subst (λ n. AreMarks n (λ x. StandsOn (next rows) x x) c.in_ok-cyclic.cyclic.items) (sym size) c.in_ok-cyclic.ensures;
    }
