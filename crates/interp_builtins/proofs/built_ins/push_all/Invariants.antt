use Rattle.std.proofs.Common.{◌≡◌, ◌++◌, drop, map}
use Rattle.go_value.specs.Values.{value_of}
use Rattle.ssa_mean.specs.Texts.{printed_all}
use Rattle.interp_builtins.proofs.built_ins.push_all.Given as goal

abbrev pub invariant-loop-value : goal.invariant-loop-value
invariant-loop-value l =
    l.text.items ++ printed_all (map value_of (drop l.value-index l.values))
    ≡ l.initial.text.items ++ printed_all (map value_of l.values)
