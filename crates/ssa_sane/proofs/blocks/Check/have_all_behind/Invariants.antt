use Rattle.std.proofs.Common.{All, take}
use Rattle.ssa_sane.specs.Checks.{IsEdgeRight}
use Rattle.ssa_sane.proofs.blocks.Check.have_all_behind.Given as goal

abbrev pub invariant-loop-edge : goal.invariant-loop-edge
invariant-loop-edge l = All (IsEdgeRight l.self.function.now) (take l.edge-index l.edges)
