use Rattle.go_places.proofs.Fronts.{arm_else, arm_first}
use Rattle.go_places.proofs.starts.arm_start.Goals as goal

pub returns-in-Some : goal.returns-in-Some
returns-in-Some c = arm_else c.args.arm.now c.in-Some.word c.in-Some.is

pub returns-in-None : goal.returns-in-None
returns-in-None c = arm_first c.args.arm.now c.in-None.is
