use Rattle.typed_calls.specs.declared.calling.Arguments.TheVariants as arguments
use Rattle.typed_calls.proofs.Called.{planned}
use Rattle.typed_calls.proofs.calling.planned_arguments.Goals as goal

pub returns-in-Each : goal.returns-in-Each
returns-in-Each c =
    planned c.args.ground.now c.each_passed.new.ground c.args.call c.args.signature.now c.args.arguments (arguments.Each c.in-Each.values) c.new-plan.result c.each_passed.result
    c.in-Each.is c.new-plan.ensures c.each_passed.ensures

pub returns-in-Spread : goal.returns-in-Spread
returns-in-Spread c =
    planned c.args.ground.now c.spread.new.ground c.args.call c.args.signature.now c.args.arguments (arguments.Spread c.in-Spread.tuple c.in-Spread.parts) c.new-plan.result c.spread.result
    c.in-Spread.is c.new-plan.ensures c.spread.ensures
