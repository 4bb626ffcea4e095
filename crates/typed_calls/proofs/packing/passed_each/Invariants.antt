use Rattle.std.proofs.Common.{◌≡◌, ◌++◌, length, map}
use Rattle.std.specs.Iterator.Adapters.{enumerate_count, enumerate_source}
use Rattle.std.specs.Vec.Iter.{into_iter_items, into_iter_len}
use Rattle.typed_parts.specs.Joining.{items_of}
use Rattle.typed_parts.specs.Turning.{Turned}
use Rattle.typed_calls.specs.Packing.{ArePassed}
use Rattle.typed_calls.proofs.Packs.{numbered}
use Rattle.typed_calls.proofs.packing.passed_each.Given as goal

abbrev pub invariant-loop-number : goal.invariant-loop-number
invariant-loop-number l = record {
  rest : map numbered l.yielded ++ into_iter_items (enumerate_source l.number-iterator) ≡ into_iter_items (enumerate_source l.initial.number-iterator);
  so_far : Turned l.fn.ground l.ground (items_of l.passed) (ArePassed l.fn.plan l.signature (map numbered l.yielded));
  at : enumerate_count l.number-iterator ≡ length (map numbered l.yielded);
  counted : into_iter_len (enumerate_source l.number-iterator) ≡ length (into_iter_items (enumerate_source l.number-iterator));
}
