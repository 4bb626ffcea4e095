use Rattle.code_safety.proofs.Stepping.{never_stuck}
use Rattle.code_safety.proofs.laws.never_stuck.Goals as goal

pub returns : goal.returns
returns c = never_stuck
