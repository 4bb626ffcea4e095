use Rattle.std.proofs.Common.{◌≡◌, map, replicate}
use Rattle.go_value.specs.Values.{value_of}
use Rattle.interp_builtins.proofs.elements.copies.Given as goal

abbrev pub invariant-loop : goal.invariant-loop
invariant-loop l = map value_of l.items.items ≡ replicate l.counter (value_of l.value)
