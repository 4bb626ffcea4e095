use Rattle.std.proofs.Common.{◌≡◌, ◌≤◌, take, Some}
use Rattle.typed_parts.specs.Judged.{Outcome}
use Rattle.typed_built_ins.specs.Extremes.{AreMatched}
use Rattle.typed_built_ins.proofs.extremes.common_type.Given as goal

abbrev pub invariant-loop-argument : goal.invariant-loop-argument
invariant-loop-argument l = record {
  matched : Outcome l.fn.ground l.ground (Some l.common) (AreMatched l.fn.ground.types (take l.argument-index l.arguments));
  counted : l.common.count ≤ l.argument-index;
}
