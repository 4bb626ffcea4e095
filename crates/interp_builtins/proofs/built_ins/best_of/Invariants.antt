use Rattle.std.proofs.Common.{◌≡◌, drop, map, if◌then◌else◌}
use Rattle.go_value.specs.Values.{value_of}
use Rattle.ssa_mean.specs.BuiltIns.{greatest_of, least_of}
use Rattle.interp_builtins.proofs.built_ins.best_of.Given as goal

abbrev pub invariant-loop-other : goal.invariant-loop-other
invariant-loop-other l =
    (if l.greatest then greatest_of else least_of) (value_of l.best) (map value_of (drop l.other-index l.others))
    ≡ (if l.greatest then greatest_of else least_of) (value_of l.first) (map value_of l.others)
