use Rattle.go_type.specs.Table.{Table}
use Rattle.typed_parts.specs.Retyping.{IsGiven}
use Rattle.typed_calls.specs.Converting.{IsExplicitNode}
use Rattle.typed_parts.specs.Turning.{Keeps}
use Rattle.typed_calls.proofs.Converts.{explicit_made}
use Rattle.typed_parts.proofs.Turns.{keeps, then_nothing, then_soundly}
use Rattle.typed_calls.proofs.converting.converted_through.Goals as goal

pub returns-in-Some : goal.returns-in-Some
returns-in-Some c =
    let mid = c.retyped.new.ground in
    then_soundly c.args.ground.now mid mid (Keeps (λ (types : Table). IsGiven types c.args.of c.args.expr)) (IsExplicitNode c.args.at c.args.to) c.in_ok-expr.field-0 c.in-Some.expr c.sound.result c.in-Some.is
    (keeps c.args.ground.now mid (λ (types : Table). IsGiven types c.args.of c.args.expr) c.in_ok-expr.field-0 c.in_ok-expr.ensures)
    (explicit_made mid c.args.at c.args.to c.in-Some.expr c.explicit.result c.sound.result c.explicit.ensures c.sound.ensures)

pub returns-in-None : goal.returns-in-None
returns-in-None c =
    let mid = c.retyped.new.ground in
    then_nothing c.args.ground.now mid (Keeps (λ (types : Table). IsGiven types c.args.of c.args.expr)) (IsExplicitNode c.args.at c.args.to) c.in_ok-expr.field-0 c.in-None.is
    (keeps c.args.ground.now mid (λ (types : Table). IsGiven types c.args.of c.args.expr) c.in_ok-expr.field-0 c.in_ok-expr.ensures)
