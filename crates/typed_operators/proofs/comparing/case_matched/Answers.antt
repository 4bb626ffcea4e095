use Rattle.go_tree.specs.declared.exprs.TypedExpr.{TypedExpr}
use Rattle.typed_parts.specs.Judged.{IsFine}
use Rattle.typed_operators.specs.Comparing.{IsCase, IsCased}
use Rattle.typed_parts.proofs.Steps.{fine_made}
use Rattle.go_type.specs.Table.{Table}
use Rattle.typed_parts.proofs.Steps.{then_comes, then_nothing}
use Rattle.typed_operators.proofs.comparing.case_matched.Goals as goal

pub returns-in-Some : goal.returns-in-Some
returns-in-Some c =
    then_comes c.args.ground.now c.cased.new.ground c.cased.new.ground (IsCased c.args.ground.now.types c.args.how c.args.x c.args.tag)
    (λ (types : Table). λ (value : TypedExpr). IsFine (IsCase types c.args.x.at c.args.tag value)) c.in_ok-value.field-0 c.in-Some.value c.sound.result
    c.in-Some.is c.in_ok-value.ensures (fine_made c.cased.new.ground (IsCase c.cased.new.ground.types c.args.x.at c.args.tag c.in-Some.value) c.case_of.result c.sound.result c.case_of.ensures c.sound.ensures)

pub returns-in-None : goal.returns-in-None
returns-in-None c =
    then_nothing c.args.ground.now c.cased.new.ground (IsCased c.args.ground.now.types c.args.how c.args.x c.args.tag)
    (λ (types : Table). λ (value : TypedExpr). IsFine (IsCase types c.args.x.at c.args.tag value)) c.in_ok-value.field-0 c.in-None.is c.in_ok-value.ensures
