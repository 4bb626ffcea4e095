use Rattle.std.proofs.Common.{refl, subst}
use Rattle.program_work.specs.Working.{AreSane}
use Rattle.program_work.proofs.coding.sound_code.Goals as goal

pub returns-clause-sound : goal.returns-clause-sound
returns-clause-sound c = record {
  held = c.laws.ensures;
  sane = subst AreSane c.as_slice.ensures c.in_ok-judge.ensures.sane;
  typed = c.in_ok-type_code.ensures.typed refl;
  runnable = c.in_ok-runs.ensures.0 c.if-not-runs.false;
}
