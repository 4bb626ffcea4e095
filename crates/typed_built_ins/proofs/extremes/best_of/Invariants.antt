use Rattle.std.proofs.Common.{◌≡◌, drop, None}
use Rattle.std.specs.Option.{option_copied}
use Rattle.typed_built_ins.specs.Extremes.{best_behind}
use Rattle.typed_built_ins.proofs.extremes.best_of.Given as goal

abbrev pub invariant-loop-value : goal.invariant-loop-value
invariant-loop-value l = record {
  whole : best_behind l.builtin (option_copied l.best) (drop l.value-index l.values) ≡ best_behind l.builtin None l.values;
}
