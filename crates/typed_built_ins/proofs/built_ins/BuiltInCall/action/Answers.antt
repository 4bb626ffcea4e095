use Rattle.typed_parts.specs.Joining.{items_of}
use Rattle.std.proofs.Common.{ap}
use Rattle.typed_built_ins.specs.BuiltIns.{IsAction}
use Rattle.typed_parts.proofs.Turns.{nothing}
use Rattle.typed_built_ins.proofs.built_ins.BuiltInCall.action.Goals as goal

pub returns-in-None : goal.returns-in-None
returns-in-None c = nothing c.args.ground.now (IsAction c.args.self) (items_of c.args.arguments) (ap items_of c.in-None.is)
