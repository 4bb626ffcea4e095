use Rattle.go_tree.specs.declared.exprs.TypedExpr.{TypedExpr}
use Rattle.go_type.specs.Table.{Table}
use Rattle.typed_parts.specs.Adapting.{IsPassed}
use Rattle.typed_parts.specs.Retyping.{IsGiven}
use Rattle.typed_parts.proofs.Steps.{then_comes, then_nothing}
use Rattle.typed_parts.proofs.adapting.into_interface.Goals as goal

pub returns-in-Some : goal.returns-in-Some
returns-in-Some c =
    then_comes c.args.ground.now c.retyped.new.ground c.passed.new.ground (IsGiven c.args.ground.now.types c.args.of c.args.expr)
    (λ (types : Table) (x : TypedExpr). IsPassed types c.args.at x c.args.to) c.in_ok-expr.field-0 c.in-Some.expr c.passed.result
    c.in-Some.is c.in_ok-expr.ensures c.passed.ensures

pub returns-in-None : goal.returns-in-None
returns-in-None c =
    then_nothing c.args.ground.now c.retyped.new.ground (IsGiven c.args.ground.now.types c.args.of c.args.expr)
    (λ (types : Table) (x : TypedExpr). IsPassed types c.args.at x c.args.to) c.in_ok-expr.field-0 c.in-None.is c.in_ok-expr.ensures
