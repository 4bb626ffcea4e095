use Rattle.std.proofs.Common.{◌∙◌, sym}
use Rattle.interp_builtins.proofs.Switched.{meets_fault}
use Rattle.interp_builtins.proofs.channels.go_on.Goals as goal

pub returns-in-Some : goal.returns-in-Some
returns-in-Some c =
    meets_fault c.meet.result c.args.machine.now c.take.new.self c.meet.new.self c.in-Some.fault
    (sym c.take.ensures.value ∙ c.in-Some.is) c.take.ensures.after c.meet.ensures
