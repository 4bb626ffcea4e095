use Rattle.typed_parts.specs.declared.meaning.Given.{Given}
use Rattle.go_tree.specs.declared.exprs.TypedExpr.{TypedExpr}
use Rattle.typed_operators.specs.Shifting.{AreShiftOperands, IsShiftedBy}
use Rattle.go_type.specs.Table.{Table}
use Rattle.typed_parts.proofs.Steps.{then_comes, then_nothing}
use Rattle.typed_operators.proofs.shifting.shift.Goals as goal

pub returns-in-Some : goal.returns-in-Some
returns-in-Some c =
    then_comes c.args.ground.now c.shift_operands.new.ground c.shifted.new.ground (AreShiftOperands c.args.ground.now.types c.args.x c.args.y)
    (λ (types : Table). λ (p : Given × TypedExpr). IsShiftedBy types c.args.left p.0 p.1) c.in_ok-x.field-0 (c.in-Some.x, c.in-Some.count) c.shifted.result
    c.in-Some.is c.in_ok-x.ensures (c.shifted.ensures)

pub returns-in-None : goal.returns-in-None
returns-in-None c =
    then_nothing c.args.ground.now c.shift_operands.new.ground (AreShiftOperands c.args.ground.now.types c.args.x c.args.y)
    (λ (types : Table). λ (p : Given × TypedExpr). IsShiftedBy types c.args.left p.0 p.1) c.in_ok-x.field-0 c.in-None.is c.in_ok-x.ensures
