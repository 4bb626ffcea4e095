use Rattle.ssa_mean.proofs.Slotted.{slots_tell_lem}
use Rattle.ssa_mean.proofs.laws.slots_tell.Goals as goal

pub returns : goal.returns
returns c = slots_tell_lem
