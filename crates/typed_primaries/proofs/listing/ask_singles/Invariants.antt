use Rattle.std.proofs.Common.{◌≡◌, ◌++◌, length}
use Rattle.std.specs.List.{flat_map}
use Rattle.std.specs.Vec.Iter.{into_iter_items, into_iter_len}
use Rattle.typed_parts.specs.Judged.{reported}
use Rattle.typed_primaries.specs.Listing.{single_broken}
use Rattle.typed_primaries.proofs.listing.ask_singles.Given as goal

abbrev pub invariant-loop-value : goal.invariant-loop-value
invariant-loop-value l = record {
  rest : l.yielded ++ into_iter_items l.value-iterator ≡ into_iter_items l.initial.value-iterator;
  broken : l.ground ≡ reported l.fn.ground (flat_map (single_broken l.fn.ground.types) l.yielded);
  counted : into_iter_len l.value-iterator ≡ length (into_iter_items l.value-iterator);
}
