use Rattle.std.proofs.Common.{[]}
use Rattle.code_plan.proofs.Zipped.{zip_more, zip_whole}
use Rattle.code_plan.specs.Plans.{IsEdge}
use Rattle.code_plan.specs.Sites.{site_with}
use Rattle.code_plan.proofs.blocks.Body.edges.Goals as goal

pub loop-edge-preserved : goal.loop-edge-preserved
loop-edge-preserved c =
    zip_more (IsEdge (site_with c.args.self.now [])) c.args.edges.now c.loop-edge.all.items _
    c.loop-edge.edge-index c.edge-item.result c.in_ok-edge.field-0 c.loop-edge.invariant c.loop-edge-test.true
    c.edge-item.is c.in_ok-edge.ensures c.in_ok-push.ensures.items

pub returns : goal.returns
returns c =
    zip_whole (IsEdge (site_with c.args.self.now [])) c.args.edges.now _ _ c.loop-edge-test.false c.loop-edge.invariant
