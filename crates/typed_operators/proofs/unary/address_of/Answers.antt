use Rattle.go_type.specs.Table.{Table}
use Rattle.typed_parts.specs.declared.meaning.Given.{Given}
use Rattle.typed_parts.specs.Turning.{Asks}
use Rattle.typed_parts.proofs.Turns.{asks, then_nothing, then_soundly}
use Rattle.typed_operators.specs.Addressing.{IsAddress, addressed}
use Rattle.typed_operators.proofs.unary.address_of.Goals as goal

pub returns-in-Some : goal.returns-in-Some
returns-in-Some c =
    then_soundly c.args.ground.now c.addressed.new.ground c.address.new.ground (Asks (λ (types : Table). addressed types c.args.x)) (λ (x : Given). IsAddress c.args.at x.expr)
    c.addressed.result c.in-Some.x c.address.result c.in-Some.is
    (asks c.args.ground.now c.addressed.new.ground (λ (types : Table). addressed types c.args.x) c.addressed.result c.addressed.ensures.answer c.addressed.ensures.broken) c.address.ensures

pub returns-in-None : goal.returns-in-None
returns-in-None c =
    then_nothing c.args.ground.now c.addressed.new.ground (Asks (λ (types : Table). addressed types c.args.x)) (λ (x : Given). IsAddress c.args.at x.expr)
    c.addressed.result c.in-None.is
    (asks c.args.ground.now c.addressed.new.ground (λ (types : Table). addressed types c.args.x) c.addressed.result c.addressed.ensures.answer c.addressed.ensures.broken)
