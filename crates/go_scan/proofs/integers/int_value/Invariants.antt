use Rattle.std.proofs.Common.{◌≡◌, ◌^◌, ◌<◌, drop}
use Rattle.go_ast.specs.Literals.{digits_value}
use Rattle.go_scan.proofs.integers.int_value.Given as goal

abbrev pub invariant-loop-byte : goal.invariant-loop-byte
invariant-loop-byte l = record {
  small : l.value < 2 ^ 127;
  reached : digits_value l.base 0 l.digits ≡ digits_value l.base l.value (drop l.byte-index l.digits);
}
