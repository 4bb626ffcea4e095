use Rattle.std.proofs.Common.{◌≡◌, ◌++◌, length}
use Rattle.std.specs.Vec.Iter.{into_iter_items, into_iter_len}
use Rattle.typed_parts.specs.Judged.{reported}
use Rattle.typed_calls.specs.Calling.{singles, singles_broken}
use Rattle.typed_calls.proofs.calling.each_argument.Given as goal

abbrev pub invariant-loop-value : goal.invariant-loop-value
invariant-loop-value l = record {
  rest : l.yielded ++ into_iter_items l.value-iterator ≡ into_iter_items l.initial.value-iterator;
  values : l.singles.items ≡ singles l.fn.ground.types l.yielded;
  broken : l.ground ≡ reported l.fn.ground (singles_broken l.fn.ground.types l.yielded);
  counted : into_iter_len l.value-iterator ≡ length (into_iter_items l.value-iterator);
}
