use Rattle.std.proofs.Common.{◌≡◌, ◌++◌, length}
use Rattle.std.specs.Vec.Iter.{into_iter_items, into_iter_len}
use Rattle.typed_parts.specs.Judged.{reported}
use Rattle.typed_built_ins.specs.Making.{form_broken, form_in, form_of}
use Rattle.typed_built_ins.proofs.making.formed_arguments.Given as goal

abbrev pub invariant-loop-argument : goal.invariant-loop-argument
invariant-loop-argument l = record {
  rest : l.yielded ++ into_iter_items l.argument-iterator ≡ into_iter_items l.initial.argument-iterator;
  form : form_of l.formed ≡ form_in l.fn.ground.types l.fn.call.at l.yielded;
  broken : l.ground ≡ reported l.fn.ground (form_broken l.fn.ground.types l.yielded);
  counted : into_iter_len l.argument-iterator ≡ length (into_iter_items l.argument-iterator);
}
