use Rattle.interp_builtins.proofs.Outcomes.{receives_is}
use Rattle.interp_builtins.proofs.channels.receive.Goals as goal

pub returns-in-Ok : goal.returns-in-Ok
returns-in-Ok c = λ held same.
    receives_is c.receive_from.result c.args.machine.now c.receive_from.new.machine c.args.channel.now held
    c.args.zero.now c.args.comma_ok c.args.to c.in-Ok.channel c.in-Ok.ensures same c.receive_from.ensures
