use Rattle.std.proofs.Common.{◌≡◌, ◌++◌}
use Rattle.go_gen.specs.Generated.{each_below, declared_text}
use Rattle.go_gen.proofs.generating.push_types.Given as goal

abbrev pub invariant-loop-k : goal.invariant-loop-k
invariant-loop-k l = l.text.items ≡ l.fn.text.items ++ each_below declared_text l.k
