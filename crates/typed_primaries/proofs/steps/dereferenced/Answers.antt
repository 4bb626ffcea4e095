use Rattle.typed_primaries.proofs.Stepping.{behind_pointer}
use Rattle.typed_primaries.proofs.steps.dereferenced.Goals as goal

pub returns : goal.returns
returns c =
    behind_pointer c.args.ground.now.types c.args.expr c.node.result c.pointed.result c.in-Some.base c.in_ok-operand.operand
    c.pointed.ensures c.in-Some.is c.in_ok-operand.ensures c.node.ensures
