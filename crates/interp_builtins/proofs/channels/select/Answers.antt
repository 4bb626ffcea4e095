use Rattle.std.proofs.Common.{map}
use Rattle.go_sched.specs.Channels.{case_of}
use Rattle.interp_builtins.proofs.Outcomes.{selects_is}
use Rattle.interp_builtins.proofs.channels.select.Goals as goal

pub returns-in-Ok : goal.returns-in-Ok
returns-in-Ok c = λ all same.
    selects_is c.select_among.result c.args.machine.now c.select_among.new.machine c.args.blocking all c.args.cases.now
    c.args.to (map case_of c.in-Ok.operations) c.in-Ok.ensures same c.select_among.ensures
