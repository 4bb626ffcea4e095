use Rattle.std.proofs.Common.{◌≡◌, ◌++◌, length}
use Rattle.std.specs.Vec.Iter.{into_iter_items, into_iter_len}
use Rattle.typed_parts.specs.Joining.{items_of}
use Rattle.typed_built_ins.specs.BuiltIns.{IsPrintable}
use Rattle.typed_parts.specs.Turning.{IsEach, Turned}
use Rattle.typed_built_ins.proofs.built_ins.printables.Given as goal

abbrev pub invariant-loop-argument : goal.invariant-loop-argument
invariant-loop-argument l = record {
  rest : l.yielded ++ into_iter_items l.argument-iterator ≡ into_iter_items l.initial.argument-iterator;
  so_far : Turned l.fn.ground l.ground (items_of l.values) (IsEach IsPrintable l.yielded);
  counted : into_iter_len l.argument-iterator ≡ length (into_iter_items l.argument-iterator);
}
