use Rattle.typed_parts.specs.Joining.{items_of}
use Rattle.typed_calls.specs.Converting.{IsConverted, IsOneValue, sole_asked}
use Rattle.typed_parts.specs.Turning.{IsEach}
use Rattle.typed_calls.proofs.Converts.{after_function}
use Rattle.typed_parts.proofs.Turns.{nothing, nothing_came, something}
use Rattle.typed_calls.proofs.converting.conversion.Goals as goal

pub returns-in-Some : goal.returns-in-Some
returns-in-Some c =
    let mid = c.single_values.new.ground in
    let last = c.sole_argument.new.ground in
    after_function c.args.ground.now mid last c.converted.new.ground (IsEach IsOneValue c.args.arguments.items) (sole_asked c.args.at c.args.dots) (IsConverted c.args.at c.args.to)
    (items_of c.in_ok-arguments.arguments) c.sole_argument.result c.converted.result c.in_ok-arguments.ensures c.sole_argument.ensures.answer c.sole_argument.ensures.broken
    (something last c.converted.new.ground (IsConverted c.args.at c.args.to) c.sole_argument.result c.in-Some.x c.converted.result c.in-Some.is c.converted.ensures)

pub returns-in-None : goal.returns-in-None
returns-in-None c =
    let mid = c.single_values.new.ground in
    let last = c.sole_argument.new.ground in
    after_function c.args.ground.now mid last last (IsEach IsOneValue c.args.arguments.items) (sole_asked c.args.at c.args.dots) (IsConverted c.args.at c.args.to)
    (items_of c.in_ok-arguments.arguments) c.sole_argument.result nothing_came c.in_ok-arguments.ensures c.sole_argument.ensures.answer c.sole_argument.ensures.broken
    (nothing last (IsConverted c.args.at c.args.to) c.sole_argument.result c.in-None.is)
