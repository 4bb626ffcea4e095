use Rattle.std.proofs.Common.{◌≡◌, take}
use Rattle.ssa_print.specs.Functions.{numbering}
use Rattle.ssa_print.proofs.functions.number_registers.Given as goal

abbrev pub invariant-loop-block : goal.invariant-loop-block
invariant-loop-block l = l.given.keys ≡ numbering (take l.block-index l.blocks)
