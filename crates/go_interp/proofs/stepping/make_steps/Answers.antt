use Rattle.go_interp.proofs.Following.{goes_more, more}
use Rattle.go_interp.proofs.stepping.make_steps.Goals as goal

pub returns-in_default : goal.returns-in_default
returns-in_default c =
    more c.step.result c.args.machine.now c.loop.machine c.step.new.machine c.loop.invariant c.step.ensures

pub loop-preserved : goal.loop-preserved
loop-preserved c =
    goes_more c.step.result c.args.machine.now c.loop.machine c.step.new.machine c.in-Goes.is c.loop.invariant
    c.step.ensures
