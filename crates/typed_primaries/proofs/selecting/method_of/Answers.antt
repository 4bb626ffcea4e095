use Rattle.typed_primaries.proofs.Selects.{method_made, method_too_large}
use Rattle.typed_primaries.proofs.selecting.method_of.Goals as goal

pub returns-then-not-branch : goal.returns-then-not-branch
returns-then-not-branch c =
    method_too_large c.args.ground.now c.with_receiver.new.ground c.within_limits.new.self c.args.at c.args.of c.args.selected c.args.selection
    c.with_receiver.result c.in_ok-function.function c.in_ok-within_limits.field-0 c.with_receiver.ensures c.in_ok-function.was
    c.in_ok-within_limits.ensures c.if-not-branch.true

pub returns : goal.returns
returns c =
    method_made c.args.ground.now c.with_receiver.new.ground c.within_limits.new.self c.args.at c.args.of c.args.selected c.args.selection
    c.with_receiver.result c.in_ok-function.function c.in_ok-within_limits.field-0 c.node.result c.with_receiver.ensures c.in_ok-function.was
    c.in_ok-within_limits.ensures c.if-not-branch.false c.node.ensures
