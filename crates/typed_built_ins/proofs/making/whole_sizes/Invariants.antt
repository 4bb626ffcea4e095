use Rattle.std.proofs.Common.{◌≡◌, ◌++◌, length}
use Rattle.std.specs.Vec.Iter.{into_iter_items, into_iter_len}
use Rattle.typed_parts.specs.Joining.{items_of}
use Rattle.typed_built_ins.specs.Making.{IsSize}
use Rattle.typed_parts.specs.Turning.{IsEach, Turned}
use Rattle.typed_built_ins.proofs.making.whole_sizes.Given as goal

abbrev pub invariant-loop-size : goal.invariant-loop-size
invariant-loop-size l = record {
  rest : l.yielded ++ into_iter_items l.size-iterator ≡ into_iter_items l.initial.size-iterator;
  so_far : Turned l.fn.ground l.ground (items_of l.values) (IsEach IsSize l.yielded);
  counted : into_iter_len l.size-iterator ≡ length (into_iter_items l.size-iterator);
}
