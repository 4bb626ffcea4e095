use Rattle.std.proofs.Common.{◌≡◌, ◌<◌, ℕ, length, Some}
use Rattle.std.specs.Prelude.{slice_get}
use Rattle.ssa_sane.specs.Places.{registers_at}
use Rattle.ssa_sane.proofs.availability.Available.new.Given as goal

abbrev pub invariant-loop-block : goal.invariant-loop-block
invariant-loop-block l = record {
  size : length l.blocks.items ≡ l.block;
  lists : (block : ℕ) → block < l.block → slice_get l.blocks.items block ≡ Some (registers_at l.places.value block);
}
