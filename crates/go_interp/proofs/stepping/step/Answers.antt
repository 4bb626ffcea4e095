use Rattle.std.proofs.Common.{refl}
use Rattle.go_interp.proofs.Moving.{begun, running, unwinding}
use Rattle.go_interp.proofs.stepping.step.Goals as goal

pub returns-in-Running : goal.returns-in-Running
returns-in-Running c =
    running c.advance.result c.args.machine.now c.args.machine.now c.advance.new.machine c.in-Some.top refl c.in-Some.is
    c.in-Running.is c.advance.ensures

pub returns-in_default : goal.returns-in_default
returns-in_default c =
    unwinding c.unwind.result c.args.machine.now c.args.machine.now c.unwind.new.machine c.in-Some.top refl c.in-Some.is
    c.in_default.not-Running c.unwind.ensures

pub returns-in-None : goal.returns-in-None
returns-in-None c =
    begun c.begin_or_end.result c.args.machine.now c.args.machine.now c.begin_or_end.new.machine refl c.in-None.is
    c.begin_or_end.ensures
