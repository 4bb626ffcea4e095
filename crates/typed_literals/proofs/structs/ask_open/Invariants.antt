use Rattle.std.proofs.Common.{◌≡◌, take}
use Rattle.typed_parts.specs.Judged.{reported}
use Rattle.typed_parts.specs.Shapes.{fields_of}
use Rattle.typed_literals.specs.Structs.{are_open, closed_broken}
use Rattle.typed_literals.proofs.structs.ask_open.Given as goal

abbrev pub invariant-loop-number : goal.invariant-loop-number
invariant-loop-number l = record {
  open_ones : l.open ≡ are_open (fields_of l.fn.ground.types l.of) l.package (take l.number l.elements);
  broken : l.ground ≡ reported l.fn.ground (closed_broken (fields_of l.fn.ground.types l.of) l.package (take l.number l.elements));
}
