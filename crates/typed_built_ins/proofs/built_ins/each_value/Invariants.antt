use Rattle.std.proofs.Common.{◌≡◌, ◌++◌, length}
use Rattle.std.specs.Vec.Iter.{into_iter_items, into_iter_len}
use Rattle.typed_parts.specs.Judged.{reported}
use Rattle.typed_built_ins.specs.BuiltIns.{broken_in, values_in}
use Rattle.typed_built_ins.proofs.built_ins.each_value.Given as goal

abbrev pub invariant-loop-argument : goal.invariant-loop-argument
invariant-loop-argument l = record {
  rest : l.yielded ++ into_iter_items l.argument-iterator ≡ into_iter_items l.initial.argument-iterator;
  values : l.values.items ≡ values_in l.fn.ground.types l.yielded;
  broken : l.ground ≡ reported l.fn.ground (broken_in l.fn.ground.types l.yielded);
  counted : into_iter_len l.argument-iterator ≡ length (into_iter_items l.argument-iterator);
}
