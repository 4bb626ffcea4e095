use Rattle.typed_parts.specs.declared.meaning.Given.{Given}
use Rattle.typed_parts.specs.Judged.{Exactly}
use Rattle.typed_operators.specs.Stating.{IsRangeValue, range_given}
use Rattle.typed_operators.proofs.Operating.{exactly_came}
use Rattle.typed_parts.proofs.Steps.{came}
use Rattle.go_type.specs.Table.{Table}
use Rattle.typed_parts.proofs.Steps.{then_comes, then_nothing}
use Rattle.typed_operators.proofs.stating.range_operand.Goals as goal

pub returns-in-Some : goal.returns-in-Some
returns-in-Some c =
    then_comes c.args.ground.now c.range_value.new.ground c.range_given.new.ground (IsRangeValue c.args.ground.now.types c.args.x)
    (λ (types : Table). λ (given : Given). Exactly (range_given types given)) c.in_ok-x.field-0 c.in-Some.x (came c.range_given.result)
    c.in-Some.is c.in_ok-x.ensures (exactly_came c.range_value.new.ground c.range_given.new.ground (range_given c.range_value.new.ground.types c.in-Some.x) c.range_given.result c.range_given.ensures.answer c.range_given.ensures.broken)

pub returns-in-None : goal.returns-in-None
returns-in-None c =
    then_nothing c.args.ground.now c.range_value.new.ground (IsRangeValue c.args.ground.now.types c.args.x)
    (λ (types : Table). λ (given : Given). Exactly (range_given types given)) c.in_ok-x.field-0 c.in-None.is c.in_ok-x.ensures
