use Rattle.std.proofs.Common.{refl}
use Rattle.interp_builtins.proofs.Switched.{none_chosen, one_chosen}
use Rattle.interp_builtins.proofs.channels.choose.Goals as goal

pub returns-in-None : goal.returns-in-None
returns-in-None c =
    none_chosen c.args.point c.end.result c.args.machine.now (record (c.args.machine.now) { sched = c.switch.new.self })
    c.end.new.self c.switch.result c.switch.ensures.next c.in-None.is refl c.end.ensures.ends c.end.ensures.ending

pub returns-in-Some : goal.returns-in-Some
returns-in-Some c =
    one_chosen c.args.point c.go_on.result c.args.machine.now (record
    (c.args.machine.now) { sched = c.switch.new.self })
    c.change.new.machine c.go_on.new.machine c.current-before.result c.switch.result c.in-Some.chosen
    c.current-before.ensures c.switch.ensures.next c.in-Some.is refl c.switch.ensures.after c.change.ensures.changed
    c.change.ensures.others c.go_on.ensures
