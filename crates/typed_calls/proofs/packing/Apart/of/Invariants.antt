use Rattle.std.proofs.Common.{◌≡◌, ◌++◌, drop, length, take}
use Rattle.std.specs.Vec.Iter.{into_iter_items, into_iter_len}
use Rattle.typed_calls.specs.Packing.{items_from}
use Rattle.typed_calls.proofs.packing.Apart.of.Given as goal

abbrev pub invariant-loop-value : goal.invariant-loop-value
invariant-loop-value l = record {
  rest : l.yielded ++ into_iter_items l.value-iterator ≡ into_iter_items l.initial.value-iterator;
  first : l.apart.fixed.items ≡ take l.fixed l.yielded;
  others : l.apart.items.items ≡ items_from 0 (drop l.fixed l.yielded);
  counted : into_iter_len l.value-iterator ≡ length (into_iter_items l.value-iterator);
}
