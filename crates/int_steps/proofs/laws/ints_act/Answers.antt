use Rattle.int_steps.proofs.Acting.{ints_act_lem}
use Rattle.int_steps.proofs.laws.ints_act.Goals as goal

pub returns : goal.returns
returns c = ints_act_lem c.slots_tell.ensures
