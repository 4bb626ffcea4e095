use Rattle.std.proofs.Common.{arith, codes}
use Rattle.go_text.specs.Joining.{joined-turn}
use Rattle.ssa_print.specs.Instructions.{edge_text}
use Rattle.ssa_print.proofs.instructions.Writer.edges.Goals as goal

pub loop-index-preserved : goal.loop-index-preserved
loop-index-preserved c =
    joined-turn (codes ", ") (edge_text c.args.self.now.setting.now c.args.self.now.given.now.keys) c.args.edges.now c.loop-index.index _ _ _ _ _ _
    (omega arith) c.index-edges-index.is c.loop-index.invariant c.in_ok-separate.ensures c.in_ok-edge.ensures
