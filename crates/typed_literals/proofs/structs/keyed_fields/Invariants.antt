use Rattle.std.proofs.Common.{◌≡◌, ◌++◌, length}
use Rattle.std.specs.Vec.Iter.{into_iter_items, into_iter_len}
use Rattle.typed_parts.specs.Joining.{items_of}
use Rattle.typed_parts.specs.Turning.{IsEach, Turned}
use Rattle.typed_parts.specs.Shapes.{fields_of}
use Rattle.typed_literals.specs.Structs.{AreTaken}
use Rattle.typed_literals.proofs.Keys.{IsKeyedAt}
use Rattle.typed_literals.proofs.structs.keyed_fields.Given as goal

abbrev pub invariant-loop-element : goal.invariant-loop-element
invariant-loop-element l = record {
  rest : l.yielded ++ into_iter_items l.element-iterator ≡ into_iter_items l.initial.element-iterator;
  so_far : Turned l.fn.ground l.ground (items_of l.fields) (IsEach (IsKeyedAt l.fn.of l.fn.elements.items) l.yielded);
  taken : AreTaken (fields_of l.fn.ground.types l.fn.of) l.yielded l.taken;
  types : l.ground.types ≡ l.fn.ground.types;
  counted : into_iter_len l.element-iterator ≡ length (into_iter_items l.element-iterator);
}
