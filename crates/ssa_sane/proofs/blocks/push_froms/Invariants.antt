use Rattle.std.proofs.Common.{◌≡◌, take}
use Rattle.ssa_sane.specs.Sane.{froms_of}
use Rattle.ssa_sane.proofs.blocks.push_froms.Given as goal

abbrev pub invariant-loop-edge : goal.invariant-loop-edge
invariant-loop-edge l = l.used.items ≡ froms_of (take l.edge-index l.edges)
