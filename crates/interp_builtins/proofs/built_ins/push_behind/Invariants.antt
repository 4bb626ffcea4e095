use Rattle.std.proofs.Common.{◌≡◌, ◌++◌, drop, map}
use Rattle.go_value.specs.Values.{value_of}
use Rattle.ssa_mean.specs.Texts.{printed_behind}
use Rattle.interp_builtins.proofs.built_ins.push_behind.Given as goal

abbrev pub invariant-loop-value : goal.invariant-loop-value
invariant-loop-value l =
    l.text.items ++ printed_behind (map value_of (drop l.value-index l.values))
    ≡ l.initial.text.items ++ printed_behind (map value_of l.values)
