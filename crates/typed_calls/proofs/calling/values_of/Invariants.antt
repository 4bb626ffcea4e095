use Rattle.std.proofs.Common.{◌≡◌, ◌++◌, length}
use Rattle.std.specs.Vec.Iter.{into_iter_items, into_iter_len}
use Rattle.typed_parts.specs.Judged.{reported}
use Rattle.typed_calls.specs.Calling.{seen_broken, seen_values}
use Rattle.typed_calls.proofs.calling.values_of.Given as goal

abbrev pub invariant-loop-argument : goal.invariant-loop-argument
invariant-loop-argument l = record {
  rest : l.yielded ++ into_iter_items l.argument-iterator ≡ into_iter_items l.initial.argument-iterator;
  values : l.values.items ≡ seen_values l.yielded;
  broken : l.ground ≡ reported l.fn.ground (seen_broken l.yielded);
  counted : into_iter_len l.argument-iterator ≡ length (into_iter_items l.argument-iterator);
}
