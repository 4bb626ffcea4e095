use Rattle.std.proofs.Common.{◌≡◌, refl, sym, ap, ◌∙◌, subst, List, Ok, Some, None, Option}
use Rattle.std.specs.Global.{Vec}
use Rattle.go_base.specs.declared.place.Pos.{Pos}
use Rattle.go_tree.specs.declared.exprs.ExprKind.{ExprKind}
use Rattle.go_tree.specs.declared.exprs.TypedExpr.{TypedExpr}
use Rattle.go_type.specs.declared.constants.Const.{Const}
use Rattle.typed_parts.specs.Joining.{beside}
use Rattle.typed_parts.specs.Nodes.{node}
use Rattle.typed_parts.specs.Turning.{Turns}
use Rattle.typed_parts.proofs.Turns.{came, first_came, second_stays}
use Rattle.typed_built_ins.specs.Extremes.{IsExtremeAmong, best_of, place_for}
use Rattle.typed_built_ins.proofs.Asks.{if_came}
use Rattle.typed_built_ins.proofs.Greatest.{among_constants, among_values}
use Rattle.typed_built_ins.proofs.extremes.extreme_among.Goals as goal

pub returns-in-Some : goal.returns-in-Some
returns-in-Some c =
    let call = c.args.call in
    let best = c.in_ok-best.best in
    let whole : beside c.extreme-best.result c.args.values ≡ Ok (best, c.in_ok-best.values) = sym c.beside.ensures ∙ c.in_ok-best.was in
    let seen = c.as_slice.result.now in
    let is : best ≡ best_of call.builtin seen =
    if_came c.extreme-best.result (λ (b : Option Const). b ≡ best_of call.builtin seen) best (first_came best c.in_ok-best.values c.extreme-best.result c.args.values whole) c.extreme-best.ensures in
    among_constants c.args.ground.now call c.args.of c.args.values.items c.in-Some.value c.node.result
    (ap (best_of call.builtin) (sym c.as_slice.ensures.value) ∙ (sym is ∙ c.in-Some.is)) c.node.ensures

pub returns-in-None : goal.returns-in-None
returns-in-None c =
    let call = c.args.call in
    let best = c.in_ok-best.best in
    let v = c.in_ok-best.values in
    let whole : beside c.extreme-best.result c.args.values ≡ Ok (best, v) = sym c.beside.ensures ∙ c.in_ok-best.was in
    let same : c.args.values ≡ v = second_stays best v c.extreme-best.result c.args.values whole in
    let seen = c.as_slice.result.now in
    let is : best ≡ best_of call.builtin seen =
    if_came c.extreme-best.result (λ (b : Option Const). b ≡ best_of call.builtin seen) best (first_came best v c.extreme-best.result c.args.values whole) c.extreme-best.ensures in
    subst (λ (w : Vec TypedExpr). Turns c.args.ground.now c.args.ground.now (came (Some c.node-in-None-2.result)) (IsExtremeAmong call (c.args.of, w.items))) (sym same)
    (among_values c.args.ground.now call c.args.of v c.node-in-None-2.result
    (ap (λ (w : Vec TypedExpr). best_of call.builtin w.items) (sym same) ∙ (ap (best_of call.builtin) (sym c.as_slice.ensures.value) ∙ (sym is ∙ c.in-None.is)))
    (c.node-in-None-2.ensures
    ∙ (ap (λ (p : Pos). node p c.args.of c.into_parts-kind.result.2) c.place_for.ensures
    ∙ ap (λ (k : ExprKind). node (place_for c.args.ground.now.types call c.args.of) c.args.of k) (c.into_parts-kind.ensures.kind ∙ ap (λ (e : TypedExpr). e.kind) c.node-in-None.ensures))))
