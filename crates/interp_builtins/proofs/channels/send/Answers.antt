use Rattle.go_value.specs.Values.{value_of}
use Rattle.interp_builtins.proofs.Outcomes.{sends_is}
use Rattle.interp_builtins.proofs.channels.send.Goals as goal

pub returns-in-Ok-read : goal.returns-in-Ok-read
returns-in-Ok-read c =
    sends_is c.send_on.result c.args.machine.now c.send_on.new.machine c.args.channel.now c.args.value.now
    c.in-Ok.channel
    (value_of c.in-Ok-read.value) c.in-Ok.ensures c.in-Ok-read.ensures c.send_on.ensures
