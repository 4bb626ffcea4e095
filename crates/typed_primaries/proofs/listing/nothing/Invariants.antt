use Rattle.std.proofs.Common.{◌≡◌, map, take}
use Rattle.typed_primaries.specs.Listing.{no_type}
use Rattle.typed_primaries.proofs.listing.nothing.Given as goal

abbrev pub invariant-loop : goal.invariant-loop
invariant-loop l = l.types.items ≡ map no_type (take l.index l.targets)
