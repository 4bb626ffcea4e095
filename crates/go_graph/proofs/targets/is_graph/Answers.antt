use Rattle.std.proofs.Common.{◌↔◌, ◌∙◌, ap, sym, subst, ℕ, IsTrue, Vec, Global, map}
use Rattle.std.proofs.lemmas.List.{length-map}
use Rattle.go_graph.specs.Graph.{all_below, IsGraph}
use Rattle.go_graph.proofs.GraphTest.{graph_test}
use Rattle.go_graph.proofs.targets.is_graph.Goals as goal

pub returns : goal.returns
returns c =
    let rows = map (λ (r : Vec ℕ Global). r.items) c.args.graph.now in
    let size = length-map c.args.graph.now (λ (r : Vec ℕ Global). r.items) in
    let test = c.all_below.ensures ∙ ap (λ (n : ℕ). all_below n rows) (sym size) in
    subst (λ b. IsTrue b ↔ IsGraph rows) (sym test) (graph_test rows)
