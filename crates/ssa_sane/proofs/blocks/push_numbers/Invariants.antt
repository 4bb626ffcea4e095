use Rattle.std.proofs.Common.{◌≡◌, take}
use Rattle.ssa_sane.specs.Sane.{numbers_of}
use Rattle.ssa_sane.proofs.blocks.push_numbers.Given as goal

abbrev pub invariant-loop-id : goal.invariant-loop-id
invariant-loop-id l = l.used.items ≡ numbers_of (take l.id-index l.ids)
