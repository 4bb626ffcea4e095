use Rattle.std.proofs.Common.{◌≡◌, ◌≤◌, length}
use Rattle.go_type.specs.Grows.{Grows}
use Rattle.type_bare.specs.Stripped.{AreBare, KeepsBare, KeepsDefinitions}
use Rattle.type_bare.proofs.bare.Bare.know.Given as goal

abbrev pub invariant-loop-place : goal.invariant-loop-place
invariant-loop-place l = record {
  count : length l.self ≡ l.place;
  known : AreBare l.fn.self l.fn.types → AreBare l.self l.types;
  keeps : KeepsBare l.fn.self l.self;
  grows : Grows l.fn.types l.types;
  definitions : KeepsDefinitions l.fn.types l.types;
}
