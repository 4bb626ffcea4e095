use Rattle.std.proofs.Common.{◌≡◌, ◌++◌, length}
use Rattle.std.specs.Vec.Iter.{into_iter_items, into_iter_len}
use Rattle.typed_parts.specs.Joining.{items_of}
use Rattle.typed_parts.specs.Turning.{IsEach, Turned}
use Rattle.typed_literals.proofs.Keys.{IsListedAt}
use Rattle.typed_literals.proofs.structs.each_field.Given as goal

abbrev pub invariant-loop-element : goal.invariant-loop-element
invariant-loop-element l = record {
  rest : l.yielded ++ into_iter_items l.element-iterator ≡ into_iter_items l.initial.element-iterator;
  so_far : Turned l.fn.ground l.ground (items_of l.fields) (IsEach (IsListedAt l.fn.of) l.yielded);
  number : l.number ≡ length l.yielded;
  counted : into_iter_len l.element-iterator ≡ length (into_iter_items l.element-iterator);
}
