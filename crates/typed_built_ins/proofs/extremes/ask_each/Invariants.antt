use Rattle.std.proofs.Common.{◌≡◌, take}
use Rattle.typed_parts.specs.Judged.{reported}
use Rattle.typed_built_ins.specs.Extremes.{are_taken, each_broken}
use Rattle.typed_built_ins.proofs.extremes.ask_each.Given as goal

abbrev pub invariant-loop-argument : goal.invariant-loop-argument
invariant-loop-argument l = record {
  taken : l.taken ≡ are_taken l.fn.ground.types (take l.argument-index l.arguments);
  broken : l.ground ≡ reported l.fn.ground (each_broken l.fn.ground.types (take l.argument-index l.arguments));
}
