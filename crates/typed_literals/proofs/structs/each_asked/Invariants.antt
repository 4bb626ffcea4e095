use Rattle.std.proofs.Common.{◌≡◌, ◌++◌, length}
use Rattle.std.specs.Vec.Iter.{into_iter_items, into_iter_len}
use Rattle.typed_parts.specs.Judged.{reported}
use Rattle.typed_literals.specs.Structs.{asked_broken, asked_elements}
use Rattle.typed_literals.proofs.structs.each_asked.Given as goal

abbrev pub invariant-loop-element : goal.invariant-loop-element
invariant-loop-element l = record {
  rest : l.yielded ++ into_iter_items l.element-iterator ≡ into_iter_items l.initial.element-iterator;
  asked : l.values.items ≡ asked_elements l.fn.ground.types l.yielded;
  broken : l.ground ≡ reported l.fn.ground (asked_broken l.fn.ground.types l.yielded);
  counted : into_iter_len l.element-iterator ≡ length (into_iter_items l.element-iterator);
}
