use Rattle.std.proofs.Common.{take}
use Rattle.typed_parts.specs.Joining.{items_of}
use Rattle.typed_parts.specs.Turning.{Turned}
use Rattle.typed_calls.specs.Packing.{ArePartsTo}
use Rattle.typed_calls.proofs.packing.passed_parts.Given as goal

abbrev pub invariant-loop-number : goal.invariant-loop-number
invariant-loop-number l = record {
  so_far : Turned l.fn.ground l.ground (items_of l.passed) (ArePartsTo l.fn.at l.fn.plan l.signature (take l.number l.fn.parts.items));
}
