use Rattle.std.proofs.Common.{All, List, subst, refl, arith}
use Rattle.std.proofs.lemmas.List.{take_all}
use Rattle.std.proofs.lemmas.List.Elements.{All-more, All-contains}
use Rattle.ssa_ir.specs.declared.ops.PhiEdge.{PhiEdge}
use Rattle.ssa_sane.specs.Checks.{IsEdgeRight}
use Rattle.ssa_sane.proofs.blocks.Check.have_all_behind.Goals as goal

pub loop-edge-preserved : goal.loop-edge-preserved
loop-edge-preserved c =
    let f = c.args.self.now.function.now in
    All-more (IsEdgeRight f) c.args.edges.now c.loop-edge.edge-index _ (omega arith) c.loop-edge.invariant
    (subst (IsEdgeRight f) c.edge-item.is (c.has_behind.ensures.0 c.if-not-has_behind.false))

pub returns : goal.returns
returns c =
    let f = c.args.self.now.function.now in (
      λ h edge has. All-contains (IsEdgeRight f) c.args.edges.now edge (subst (λ (l : List PhiEdge). All (IsEdgeRight f) l) (take_all c.loop-edge.edge-index c.args.edges.now (omega arith)) c.loop-edge.invariant) has,
      λ all. refl,
    )
