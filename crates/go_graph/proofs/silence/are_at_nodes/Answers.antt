use Rattle.std.proofs.Common.{◌↔◌, sym, subst, IsTrue}
use Rattle.go_graph.specs.Silence.{AreAtNodes}
use Rattle.go_graph.proofs.GraphTest.{nodes_test}
use Rattle.go_graph.proofs.silence.are_at_nodes.Goals as goal

pub returns : goal.returns
returns c = subst (λ b. IsTrue b ↔ AreAtNodes c.args.count c.args.faults.now) (sym c.have_nodes.ensures) (nodes_test c.args.count c.args.faults.now)
