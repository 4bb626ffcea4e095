use Rattle.std.proofs.Common.{◌≡◌, ◌++◌, length, Some}
use Rattle.std.specs.Vec.Iter.{into_iter_items, into_iter_len}
use Rattle.typed_parts.specs.Turning.{IsEach, Turned}
use Rattle.typed_primaries.specs.Listing.{IsValueInto}
use Rattle.typed_primaries.proofs.listing.each_value.Given as goal

abbrev pub invariant-loop-value : goal.invariant-loop-value
invariant-loop-value l = record {
  rest : l.yielded ++ into_iter_items l.value-iterator ≡ into_iter_items l.initial.value-iterator;
  so_far : Turned l.fn.ground l.ground (Some l.made.items) (IsEach (IsValueInto l.fn.targets) l.yielded);
  many : length l.made.items ≡ length l.yielded;
  counted : into_iter_len l.value-iterator ≡ length (into_iter_items l.value-iterator);
}
