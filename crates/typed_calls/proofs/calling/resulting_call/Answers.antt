use Rattle.std.proofs.Common.{◌≡◌, sym, ◌∙◌, subst, List, Ok}
use Rattle.std.specs.Prelude.{IfOk}
use Rattle.go_base.specs.declared.ids.TypeId.{TypeId}
use Rattle.go_tree.specs.declared.exprs.TypedExpr.{TypedExpr}
use Rattle.go_tree.specs.declared.exprs.Values.{Values}
use Rattle.typed_parts.specs.Joining.{beside, sound}
use Rattle.typed_parts.specs.Turning.{Turns}
use Rattle.typed_parts.proofs.Turns.{first_came, second_stays}
use Rattle.typed_calls.specs.Calling.{IsCallNode, IsResult}
use Rattle.typed_calls.proofs.Called.{resulted}
use Rattle.typed_calls.proofs.calling.resulting_call.Goals as goal

pub returns : goal.returns
returns c =
    let old = c.args.ground.now in
    let new = c.result_of-of.new.ground in
    let came = c.result_of-of.result in
    let of = c.in_ok-of.of in
    let pair : TypedExpr × Values = (c.args.callee, c.args.arguments) in
    let other : TypedExpr × Values = (c.in_ok-of.callee, c.in_ok-of.arguments) in
    let whole : beside came pair ≡ Ok (of, other) = sym c.beside.ensures ∙ c.in_ok-of.was in
    let same : pair ≡ other = second_stays of other came pair whole in
    resulted old new c.args.call c.args.signature.results c.args.callee c.args.arguments of came c.call_node.result c.sound.result
    (first_came of other came pair whole)
    (subst (λ (l : List TypeId). Turns old new (sound came) (IsResult l)) c.as_slice.ensures c.result_of-of.ensures)
    (subst (λ (p : TypedExpr × Values). IfOk c.call_node.result (IsCallNode c.args.call of p.0 p.1)) (sym same) c.call_node.ensures) c.sound.ensures
