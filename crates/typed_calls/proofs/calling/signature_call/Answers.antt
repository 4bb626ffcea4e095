use Rattle.std.proofs.Common.{◌≡◌, sym, ◌∙◌, subst, Ok}
use Rattle.go_tree.specs.declared.exprs.TypedExpr.{TypedExpr}
use Rattle.go_type.specs.declared.term.Signature.{Signature}
use Rattle.typed_parts.specs.Joining.{beside}
use Rattle.typed_parts.specs.Turning.{Turns}
use Rattle.typed_parts.proofs.Turns.{first_came, second_stays}
use Rattle.typed_calls.specs.Calling.{IsResulting}
use Rattle.typed_calls.specs.Passing.{written}
use Rattle.typed_calls.proofs.Called.{signature_called, signature_refused}
use Rattle.typed_calls.proofs.calling.signature_call.Goals as goal

pub returns-in-Some : goal.returns-in-Some
returns-in-Some c =
    let old = c.args.ground.now in
    let mid = c.passed_arguments-arguments.new.ground in
    let new = c.resulting_call.new.ground in
    let came = c.passed_arguments-arguments.result in
    let answer = c.in_ok-arguments.arguments in
    let pair : TypedExpr × Signature = (c.args.callee, c.args.signature) in
    let other : TypedExpr × Signature = (c.in_ok-arguments.callee, c.in_ok-arguments.signature) in
    let whole : beside came pair ≡ Ok (answer, other) = sym c.beside.ensures ∙ c.in_ok-arguments.was in
    let same : pair ≡ other = second_stays answer other came pair whole in
    signature_called old mid new c.args.call c.args.signature c.args.callee (written c.args.arguments) came answer c.in-Some.arguments c.resulting_call.result
    (first_came answer other came pair whole) c.in-Some.is c.passed_arguments-arguments.ensures
    (subst (λ (p : TypedExpr × Signature). Turns mid new c.resulting_call.result (IsResulting c.args.call p.1.results p.0 c.in-Some.arguments)) (sym same) c.resulting_call.ensures)

pub returns-in-None : goal.returns-in-None
returns-in-None c =
    let came = c.passed_arguments-arguments.result in
    let answer = c.in_ok-arguments.arguments in
    let pair : TypedExpr × Signature = (c.args.callee, c.args.signature) in
    let other : TypedExpr × Signature = (c.in_ok-arguments.callee, c.in_ok-arguments.signature) in
    let whole : beside came pair ≡ Ok (answer, other) = sym c.beside.ensures ∙ c.in_ok-arguments.was in
    signature_refused c.args.ground.now c.passed_arguments-arguments.new.ground c.args.call c.args.signature c.args.callee (written c.args.arguments) came answer
    (first_came answer other came pair whole) c.in-None.is c.passed_arguments-arguments.ensures
