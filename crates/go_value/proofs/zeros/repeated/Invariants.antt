use Rattle.std.proofs.Common.{◌≡◌, replicate}
use Rattle.go_value.specs.Values.{value_of}
use Rattle.go_value.specs.Zeros.{plain}
use Rattle.go_value.proofs.zeros.repeated.Given as goal

abbrev pub invariant-parts : goal.invariant-parts
invariant-parts l = l.parts.items ≡ replicate l.counter (plain (value_of l.value))
