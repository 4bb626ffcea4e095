use Rattle.std.proofs.Common.{rules}
use Rattle.typed_parts.specs.Adapting.{IsMade}
use Rattle.typed_parts.proofs.Adapts.{made_converted, made_interface}
use Rattle.typed_parts.proofs.adapting.made.Goals as goal

pub returns-then-identical : goal.returns-then-identical
returns-then-identical c =
    IsMade.same (search rules)

pub returns-then-becomes : goal.returns-then-becomes
returns-then-becomes c =
    made_interface c.args.ground.now.types c.args.expr c.node.result c.args.to c.in_ok-operand.operand (search rules) (search rules) c.in_ok-operand.ensures c.node.ensures

pub returns-else-becomes : goal.returns-else-becomes
returns-else-becomes c =
    made_converted c.args.ground.now.types c.args.expr c.node-else-becomes.result c.args.to c.in_ok-operand.operand (search rules) (search rules) c.in_ok-operand.ensures c.node-else-becomes.ensures
