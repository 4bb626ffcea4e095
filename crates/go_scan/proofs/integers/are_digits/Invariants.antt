use Rattle.std.proofs.Common.{◌≡◌, drop, false}
use Rattle.go_ast.specs.Literals.{digits_after}
use Rattle.go_scan.proofs.integers.are_digits.Given as goal

abbrev pub invariant-loop-byte : goal.invariant-loop-byte
invariant-loop-byte l = digits_after l.base false l.text ≡ digits_after l.base l.after (drop l.byte-index l.text)
