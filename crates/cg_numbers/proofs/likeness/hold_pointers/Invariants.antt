use Rattle.go_type.specs.Grows.{Grows}
use Rattle.type_bare.specs.Stripped.{KeepsDefinitions}
use Rattle.cg_numbers.proofs.likeness.hold_pointers.Given as goal

abbrev pub invariant-loop-number : goal.invariant-loop-number
invariant-loop-number l = record {
  grows : Grows l.fn.types l.types;
  definitions : KeepsDefinitions l.fn.types l.types;
}
