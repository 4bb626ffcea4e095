use Rattle.interp_builtins.proofs.Outcomes.{blocked}
use Rattle.interp_builtins.proofs.channels.block.Goals as goal

pub returns : goal.returns
returns c =
    blocked c.switch.result c.args.machine.now c.stay.new.machine c.switch.new.machine c.stay.ensures.stays
    c.stay.ensures.others c.switch.ensures
