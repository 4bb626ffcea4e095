use Rattle.std.proofs.Common.{◌≡◌, take}
use Rattle.typed_parts.specs.Judged.{reported}
use Rattle.typed_literals.specs.Structs.{are_alike, unlike_broken}
use Rattle.typed_literals.proofs.structs.ask_keys.Given as goal

abbrev pub invariant-loop-element : goal.invariant-loop-element
invariant-loop-element l = record {
  alike : l.alike ≡ are_alike l.keyed (take l.element-index l.elements);
  broken : l.ground ≡ reported l.fn.ground (unlike_broken l.keyed (take l.element-index l.elements));
}
