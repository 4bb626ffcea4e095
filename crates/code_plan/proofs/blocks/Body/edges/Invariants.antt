use Rattle.std.proofs.Common.{[], take}
use Rattle.std.specs.List.{AllZip}
use Rattle.code_plan.specs.Plans.{IsEdge}
use Rattle.code_plan.specs.Sites.{site_with}
use Rattle.code_plan.proofs.blocks.Body.edges.Given as goal

abbrev pub invariant-loop-edge : goal.invariant-loop-edge
invariant-loop-edge l =
    AllZip (IsEdge (site_with l.self [])) (take l.edge-index l.edges) l.all.items
