use Rattle.std.proofs.Common.{◌≡◌, ◌++◌, length}
use Rattle.std.specs.Vec.Iter.{into_iter_items, into_iter_len}
use Rattle.typed_parts.specs.Joining.{items_of}
use Rattle.typed_literals.proofs.Entries.{AreKeysIn, IsEntryAt}
use Rattle.typed_literals.proofs.Gathering.{KnownSoFar}
use Rattle.typed_literals.proofs.maps.each_entry.Given as goal

abbrev pub invariant-loop-element : goal.invariant-loop-element
invariant-loop-element l = record {
  rest : l.yielded ++ into_iter_items l.element-iterator ≡ into_iter_items l.initial.element-iterator;
  so_far : KnownSoFar l.fn.ground l.ground (IsEntryAt l.fn.key l.fn.elem) (AreKeysIn l.keys) l.yielded (items_of l.entries);
  counted : into_iter_len l.element-iterator ≡ length (into_iter_items l.element-iterator);
}
