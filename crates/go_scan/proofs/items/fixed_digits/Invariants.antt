use Rattle.std.proofs.Common.{◌≡◌, ◌-◌, ◌^◌, ◌<◌, drop}
use Rattle.go_ast.specs.Literals.{fixed_digits}
use Rattle.go_scan.proofs.items.fixed_digits.Given as goal

abbrev pub invariant-loop-index : goal.invariant-loop-index
invariant-loop-index l = record {
  small : l.value < 16 ^ l.index;
  reached : fixed_digits l.base l.count 0 l.text ≡ fixed_digits l.base (l.count - l.index) l.value (drop l.index l.text);
}
