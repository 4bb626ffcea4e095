use Rattle.std.proofs.Common.{subst, Bool}
use Rattle.typed_parts.specs.Judged.{Outcome}
use Rattle.typed_parts.proofs.Steps.{came}
use Rattle.typed_parts.specs.Shapes.{is_nil}
use Rattle.typed_operators.specs.Comparing.{IsAskedCase, IsCaseOperand}
use Rattle.go_type.specs.Table.{Table}
use Rattle.typed_parts.proofs.Steps.{then_comes, then_nothing}
use Rattle.typed_operators.proofs.comparing.cased.Goals as goal

pub returns-in-Some : goal.returns-in-Some
returns-in-Some c =
    then_comes c.args.ground.now c.case_operand.new.ground c.asked_case.new.ground (IsCaseOperand c.args.ground.now.types c.args.how c.args.x.expr c.args.tag)
    (λ (types : Table). IsAskedCase types c.args.x.at (is_nil c.args.ground.now.types c.args.x.expr.of) c.args.tag) c.in_ok-value.field-0 c.in-Some.value (came c.asked_case.result)
    c.in-Some.is c.in_ok-value.ensures (subst (λ (b : Bool). Outcome c.case_operand.new.ground c.asked_case.new.ground c.asked_case.result (IsAskedCase c.case_operand.new.ground.types c.args.x.at b c.args.tag c.in-Some.value)) c.is_nil-is_nil.ensures c.asked_case.ensures)

pub returns-in-None : goal.returns-in-None
returns-in-None c =
    then_nothing c.args.ground.now c.case_operand.new.ground (IsCaseOperand c.args.ground.now.types c.args.how c.args.x.expr c.args.tag)
    (λ (types : Table). IsAskedCase types c.args.x.at (is_nil c.args.ground.now.types c.args.x.expr.of) c.args.tag) c.in_ok-value.field-0 c.in-None.is c.in_ok-value.ensures
