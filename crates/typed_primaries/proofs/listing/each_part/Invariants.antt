use Rattle.std.proofs.Common.{◌≡◌, length, take, Some}
use Rattle.typed_parts.specs.Turning.{IsEach, Turned}
use Rattle.typed_primaries.specs.Listing.{IsPartInto}
use Rattle.typed_primaries.proofs.listing.each_part.Given as goal

abbrev pub invariant-loop-of : goal.invariant-loop-of
invariant-loop-of l = record {
  so_far : Turned l.fn.ground l.ground (Some l.made.items) (IsEach (IsPartInto l.at l.fn.targets) (take l.of-index l.parts));
  many : length l.made.items ≡ l.of-index;
}
