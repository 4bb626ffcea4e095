use Rattle.typed_parts.specs.Joining.{items_of}
use Rattle.typed_built_ins.specs.BuiltIns.{IsAction, IsPrintable}
use Rattle.typed_parts.specs.Turning.{IsEach, Soundly}
use Rattle.typed_parts.proofs.Turns.{followed}
use Rattle.typed_built_ins.proofs.built_ins.printed.Goals as goal

pub returns : goal.returns
returns c =
    followed c.args.ground.now c.printables.new.ground c.action.new.ground (IsEach IsPrintable c.args.arguments.items) (Soundly (IsAction c.args.call))
    (items_of c.in_ok-values.values) c.action.result c.in_ok-values.ensures c.action.ensures
