use Rattle.interp_builtins.proofs.Done.{recovered_to}
use Rattle.interp_builtins.proofs.built_ins.recover_to.Goals as goal

pub returns-in-Ok : goal.returns-in-Ok
returns-in-Ok c =
    recovered_to c.args.to c.in-Ok.value c.finish.result c.args.machine.now c.recover.new.machine c.finish.new.machine
    c.recover.ensures.others (c.in-Ok.ensures.recovers c.args.to) c.finish.ensures
