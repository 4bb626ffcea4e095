use Rattle.interp_builtins.proofs.Switched.{spent_first}
use Rattle.interp_builtins.proofs.channels.switch.Goals as goal

pub returns-in-Goes : goal.returns-in-Goes
returns-in-Goes c =
    spent_first c.args.point c.spend.result c.choose.result c.args.machine.now c.spend.new.self c.choose.new.machine
    (c.spend.ensures.none, c.spend.ensures.spent) c.in-Goes.is c.choose.ensures
