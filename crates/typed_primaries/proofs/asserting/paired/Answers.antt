use Rattle.std.proofs.Common.{refl, true}
use Rattle.go_tree.specs.declared.exprs.ExprKind.TheVariants as kinds
use Rattle.go_tree.specs.declared.exprs.Callee.TheOpen as layers
use Rattle.typed_primaries.proofs.Asserts.{other_form, paired_form}
use Rattle.typed_primaries.proofs.asserting.paired.Goals as goal

pub returns-in-MapIndex : goal.returns-in-MapIndex
returns-in-MapIndex c =
    let parts = c.into_parts-kind in
    let it = c.in-MapIndex in
    paired_form c.args.expr c.args.pair parts.result.0 parts.result.2 (kinds.MapIndex it.map it.key it.comma_ok) (kinds.MapIndex it.map it.key true)
    (layers.ExprKind-F.MapIndex it.map it.key it.comma_ok) c.node.result parts.ensures.at parts.ensures.kind it.is
    (kinds.outs-MapIndex it.map it.key it.comma_ok) refl c.node.ensures

pub returns-in-Receive : goal.returns-in-Receive
returns-in-Receive c =
    let parts = c.into_parts-kind in
    let it = c.in-Receive in
    paired_form c.args.expr c.args.pair parts.result.0 parts.result.2 (kinds.Receive it.channel it.comma_ok) (kinds.Receive it.channel true)
    (layers.ExprKind-F.Receive it.channel it.comma_ok) c.node-in-Receive.result parts.ensures.at parts.ensures.kind it.is
    (kinds.outs-Receive it.channel it.comma_ok) refl c.node-in-Receive.ensures

pub returns-in-AssertTo : goal.returns-in-AssertTo
returns-in-AssertTo c =
    let parts = c.into_parts-kind in
    let it = c.in-AssertTo in
    paired_form c.args.expr c.args.pair parts.result.0 parts.result.2 (kinds.AssertTo it.operand it.to it.comma_ok) (kinds.AssertTo it.operand it.to true)
    (layers.ExprKind-F.AssertTo it.operand it.to it.comma_ok) c.node-in-AssertTo.result parts.ensures.at parts.ensures.kind it.is
    (kinds.outs-AssertTo it.operand it.to it.comma_ok) refl c.node-in-AssertTo.ensures

pub returns-in_default : goal.returns-in_default
returns-in_default c =
    let parts = c.into_parts-kind in
    let it = c.in_default in
    other_form c.args.expr c.args.pair parts.result.0 parts.result.1 parts.result.2 c.node-in_default.result parts.ensures.at parts.ensures.of
    parts.ensures.kind it.not-MapIndex it.not-Receive it.not-AssertTo c.node-in_default.ensures
