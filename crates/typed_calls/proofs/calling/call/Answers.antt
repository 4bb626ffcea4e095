use Rattle.std.proofs.Common.{◌≡◌, Some}
use Rattle.typed_parts.specs.declared.meaning.Meaning.TheVariants as meaning
use Rattle.typed_calls.proofs.Called.{value_is_called}
use Rattle.typed_calls.proofs.calling.call.Goals as goal

pub returns-in-Some-Value : goal.returns-in-Some-Value
returns-in-Some-Value c =
    let it = c.in-Some-Value in
    let one = c.single-callee in
    let means : c.args.callee.meaning ≡ Some (meaning.Value it.expr) = cc in
    value_is_called c.args.ground.now one.new.ground c.function_call.new.ground c.args.callee it.expr c.args.parenthesis c.args.arguments.items c.args.dots one.result c.function_call.result
    means one.ensures.answer one.ensures.broken c.function_call.ensures
