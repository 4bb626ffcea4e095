use Rattle.std.proofs.Common.{sym, ◌∙◌}
use Rattle.ssa_runnable.specs.Runnable.{has_meaning}
use Rattle.ssa_runnable.proofs.Lists.{edges_fail, edges_pass}
use Rattle.ssa_runnable.proofs.sites.Site.edges.Goals as goal

pub returns-then-not-has_meaning : goal.returns-then-not-has_meaning
returns-then-not-has_meaning c =
    sym (edges_fail (has_meaning c.args.self.now.code.now) c.args.edges.now c.loop-edge.edge-index c.edge-item.result
    c.loop-edge-test.true c.edge-item.is (sym c.has_meaning.ensures ∙ c.if-not-has_meaning.true))

pub returns : goal.returns
returns c =
    sym (edges_pass (has_meaning c.args.self.now.code.now) c.args.edges.now c.loop-edge.edge-index
    c.loop-edge-test.false c.loop-edge.invariant)
