use Rattle.std.proofs.Common.{◌≡◌, sym, ◌∙◌, subst, Ok, Some, Option}
use Rattle.go_tree.specs.declared.exprs.TypedExpr.{TypedExpr}
use Rattle.go_type.specs.declared.term.Signature.{Signature}
use Rattle.typed_parts.specs.Joining.{beside}
use Rattle.typed_parts.specs.Turning.{Turns}
use Rattle.typed_parts.proofs.Turns.{first_came, second_stays}
use Rattle.typed_calls.specs.declared.calling.Arguments.{Arguments}
use Rattle.typed_calls.specs.Calling.{IsSignatureCall}
use Rattle.typed_calls.specs.Passing.{signature_of, written}
use Rattle.typed_built_ins.proofs.Asks.{if_came}
use Rattle.typed_calls.proofs.Called.{no_function, value_called}
use Rattle.typed_calls.proofs.calling.value_call.Goals as goal

pub returns-in-Some : goal.returns-in-Some
returns-in-Some c =
    let old = c.args.ground.now in
    let new = c.signature_call.new.ground in
    let came = c.signature_of-signature.result in
    let found = c.in_ok-signature.signature in
    let pair : TypedExpr × Arguments = (c.args.callee, c.args.arguments) in
    let other : TypedExpr × Arguments = (c.in_ok-signature.callee, c.in_ok-signature.arguments) in
    let whole : beside came pair ≡ Ok (found, other) = sym c.beside.ensures ∙ c.in_ok-signature.was in
    let same : pair ≡ other = second_stays found other came pair whole in
    let is : found ≡ signature_of old.types c.args.callee.of =
    if_came came (λ (s : Option Signature). s ≡ signature_of old.types c.args.callee.of) found (first_came found other came pair whole) c.signature_of-signature.ensures in
    value_called old new c.args.call c.args.callee (written c.args.arguments) (Some c.in-Some.signature) c.signature_call.result (sym is ∙ c.in-Some.is)
    (subst (λ (p : TypedExpr × Arguments). Turns old new c.signature_call.result (IsSignatureCall c.args.call c.in-Some.signature p.0 (written p.1))) (sym same) c.signature_call.ensures)

pub returns-in-None : goal.returns-in-None
returns-in-None c =
    let old = c.args.ground.now in
    let came = c.signature_of-signature.result in
    let found = c.in_ok-signature.signature in
    let pair : TypedExpr × Arguments = (c.args.callee, c.args.arguments) in
    let other : TypedExpr × Arguments = (c.in_ok-signature.callee, c.in_ok-signature.arguments) in
    let whole : beside came pair ≡ Ok (found, other) = sym c.beside.ensures ∙ c.in_ok-signature.was in
    let is : found ≡ signature_of old.types c.args.callee.of =
    if_came came (λ (s : Option Signature). s ≡ signature_of old.types c.args.callee.of) found (first_came found other came pair whole) c.signature_of-signature.ensures in
    no_function old c.report.new.self c.args.call c.args.callee (written c.args.arguments) found (sym is) c.in-None.is c.report.ensures
