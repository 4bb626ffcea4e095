use Rattle.std.proofs.Common.{◌≡◌, ◌++◌, length, map}
use Rattle.std.specs.List.{flat_map}
use Rattle.std.specs.Vec.Iter.{into_iter_items, into_iter_len}
use Rattle.typed_parts.specs.Judged.{reported}
use Rattle.typed_primaries.specs.Listing.{given_broken, given_of}
use Rattle.typed_primaries.proofs.listing.each_given.Given as goal

abbrev pub invariant-loop-value : goal.invariant-loop-value
invariant-loop-value l = record {
  rest : l.yielded ++ into_iter_items l.value-iterator ≡ into_iter_items l.initial.value-iterator;
  givens : l.givens.items ≡ map given_of l.yielded;
  broken : l.ground ≡ reported l.fn.ground (flat_map given_broken l.yielded);
  counted : into_iter_len l.value-iterator ≡ length (into_iter_items l.value-iterator);
}
