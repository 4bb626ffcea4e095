use Rattle.std.proofs.Common.{◌≡◌, sym, ◌∙◌, subst, Ok, Some, Option}
use Rattle.std.specs.Option.{option_zip}
use Rattle.go_tree.specs.declared.exprs.TypedExpr.{TypedExpr}
use Rattle.typed_parts.specs.declared.meaning.Given.{Given}
use Rattle.typed_parts.specs.Joining.{beside}
use Rattle.typed_parts.specs.Judged.{reported}
use Rattle.typed_parts.specs.Turning.{Turns}
use Rattle.typed_parts.proofs.Turns.{first_came, nothing, nothing_came, second_stays, something}
use Rattle.typed_calls.specs.declared.calling.Arguments.{Arguments}
use Rattle.typed_calls.specs.Calling.{IsCallOf, IsFunctionCall, arguments_asked}
use Rattle.typed_calls.specs.Passing.{written}
use Rattle.typed_built_ins.proofs.Asks.{if_came, on_came}
use Rattle.typed_calls.proofs.Called.{both_there, function_called, not_both}
use Rattle.typed_calls.proofs.calling.function_call.Goals as goal

pub returns-in-Some : goal.returns-in-Some
returns-in-Some c =
    let old = c.args.ground.now in
    let mid = c.arguments_of.new.ground in
    let new = c.value_call.new.ground in
    let parts = c.args.arguments.items in
    let given = c.in_ok-arguments.arguments in
    let f = c.in_ok-arguments.callee in
    let whole : beside c.arguments_of.result c.args.callee ≡ Ok (given, f) = sym c.beside.ensures ∙ c.in_ok-arguments.was in
    let first = first_came given f c.arguments_of.result c.args.callee whole in
    let same : c.args.callee ≡ f = second_stays given f c.arguments_of.result c.args.callee whole in
    subst (λ (o : Option Given). Turns old new c.value_call.result (IsFunctionCall c.args.call parts o)) (sym same)
    (function_called old mid new c.args.call parts f given c.value_call.result
    (if_came c.arguments_of.result (λ (made : Arguments). Some (written made) ≡ (arguments_asked old.types parts).sound) given first c.arguments_of.ensures.arguments)
    (on_came c.arguments_of.result (mid ≡ reported old (arguments_asked old.types parts).broken) given first c.arguments_of.ensures.broken)
    (something mid new (IsCallOf c.args.call) (option_zip f (Some (written given))) (c.in-Some.callee, written c.in-Some.arguments) c.value_call.result
    (both_there f given c.in-Some.arguments c.in-Some.callee (sym c.zip.ensures ∙ c.in-Some.is)) c.value_call.ensures))

pub returns-in-None : goal.returns-in-None
returns-in-None c =
    let old = c.args.ground.now in
    let mid = c.arguments_of.new.ground in
    let parts = c.args.arguments.items in
    let given = c.in_ok-arguments.arguments in
    let f = c.in_ok-arguments.callee in
    let whole : beside c.arguments_of.result c.args.callee ≡ Ok (given, f) = sym c.beside.ensures ∙ c.in_ok-arguments.was in
    let first = first_came given f c.arguments_of.result c.args.callee whole in
    let same : c.args.callee ≡ f = second_stays given f c.arguments_of.result c.args.callee whole in
    subst (λ (o : Option Given). Turns old mid (nothing_came {A = TypedExpr}) (IsFunctionCall c.args.call parts o)) (sym same)
    (function_called old mid mid c.args.call parts f given (nothing_came {A = TypedExpr})
    (if_came c.arguments_of.result (λ (made : Arguments). Some (written made) ≡ (arguments_asked old.types parts).sound) given first c.arguments_of.ensures.arguments)
    (on_came c.arguments_of.result (mid ≡ reported old (arguments_asked old.types parts).broken) given first c.arguments_of.ensures.broken)
    (nothing mid (IsCallOf c.args.call) (option_zip f (Some (written given))) (not_both f given (sym c.zip.ensures ∙ c.in-None.is))))
