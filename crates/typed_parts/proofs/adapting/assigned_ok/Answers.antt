use Rattle.std.proofs.Common.{◌≡◌, ◌∙◌, sym, ap, subst}
use Rattle.go_base.specs.declared.ids.TypeId.{TypeId}
use Rattle.go_base.specs.declared.rule.Rule.TheVariants.{NotAssignable}
use Rattle.go_tree.specs.declared.exprs.ExprKind.TheVariants as kinds
use Rattle.go_tree.specs.declared.exprs.TypedExpr.{TypedExpr}
use Rattle.typed_parts.specs.Adapting.{IsMade, IsOkAssigned, ok_part}
use Rattle.typed_parts.specs.Nodes.{node}
use Rattle.typed_parts.proofs.Steps.{broke, of_made}
use Rattle.typed_parts.proofs.adapting.assigned_ok.Goals as goal

pub returns-then-takes_bool : goal.returns-then-takes_bool
returns-then-takes_bool c =
    let part : c.node-part.result ≡ ok_part c.args.at = c.node-part.ensures ∙ ap (λ (of : TypeId). node c.args.at of (kinds.PartOf 1)) c.basic.ensures in
    of_made c.args.ground.now (IsMade c.args.ground.now.types c.node-part.result c.args.to) (IsOkAssigned c.args.ground.now.types c.args.at c.args.to) c.made.result c.sound.result
    (λ x is. IsOkAssigned.passes x (sym c.takes_bool.ensures ∙ c.if-takes_bool.true) (subst (λ (y : TypedExpr). IsMade c.args.ground.now.types y c.args.to x) part is)) c.made.ensures c.sound.ensures

pub returns : goal.returns
returns c =
    broke c.args.ground.now c.report.new.self (IsOkAssigned c.args.ground.now.types c.args.at c.args.to) c.args.at NotAssignable
    (IsOkAssigned.refused (sym c.takes_bool.ensures ∙ c.if-takes_bool.false)) c.report.ensures
