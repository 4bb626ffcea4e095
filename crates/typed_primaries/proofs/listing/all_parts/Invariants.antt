use Rattle.std.proofs.Common.{◌≡◌, ◌++◌, length, map}
use Rattle.std.specs.Vec.Iter.{into_iter_items, into_iter_len}
use Rattle.typed_parts.specs.Joining.{items_of}
use Rattle.typed_primaries.specs.Listing.{all_of, type_in}
use Rattle.typed_primaries.proofs.listing.all_parts.Given as goal

abbrev pub invariant-loop-part : goal.invariant-loop-part
invariant-loop-part l = record {
  rest : l.yielded ++ into_iter_items l.part-iterator ≡ into_iter_items l.initial.part-iterator;
  values : items_of l.values ≡ all_of l.yielded;
  types : l.types.items ≡ map type_in l.yielded;
  counted : into_iter_len l.part-iterator ≡ length (into_iter_items l.part-iterator);
}
