use Rattle.code_plan.proofs.Zipped.{zip_more, zip_whole}
use Rattle.code_plan.specs.Operands.{IsArg}
use Rattle.code_plan.specs.Sites.{site_of}
use Rattle.code_plan.proofs.operands.Place.args.Goals as goal

pub loop-operand-preserved : goal.loop-operand-preserved
loop-operand-preserved c =
    zip_more (IsArg (site_of c.args.self.now)) c.args.operands.now c.loop-operand.args.items _ c.loop-operand.operand-index
    c.operand-item.result c.in_ok-arg.field-0 c.loop-operand.invariant c.loop-operand-test.true c.operand-item.is
    c.in_ok-arg.ensures c.in_ok-push.ensures.items

pub returns : goal.returns
returns c =
    zip_whole (IsArg (site_of c.args.self.now)) c.args.operands.now _ _ c.loop-operand-test.false c.loop-operand.invariant
