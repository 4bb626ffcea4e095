use Rattle.std.proofs.Common.{arith}
use Rattle.typed_primaries.specs.Steps.{IsAlong}
use Rattle.typed_primaries.proofs.Stepping.{along_all, along_more}
use Rattle.typed_primaries.proofs.steps.along.Goals as goal

pub loop-step-init : goal.loop-step-init
loop-step-init c = IsAlong.here

pub loop-step-preserved : goal.loop-step-preserved
loop-step-preserved c =
    let at = c.loop-step in
    along_more c.args.ground.now.types c.args.expr at.expr c.in_ok-expr.expr c.args.steps.now at.step-index c.loop-step-test.true
    at.invariant c.in_ok-expr.ensures

pub returns : goal.returns
returns c =
    let at = c.loop-step in
    along_all c.args.ground.now.types c.args.expr at.expr c.args.steps.now at.step-index (omega arith) at.invariant
