use Rattle.std.proofs.Common.{refl}
use Rattle.go_tree.specs.declared.exprs.Callee.TheOpen as layers
use Rattle.go_tree.specs.declared.exprs.Callee.TheVariants as callee
use Rattle.go_tree.specs.declared.exprs.ExprKind.TheVariants as kinds
use Rattle.typed_calls.proofs.Called.{callee_by, other_callee}
use Rattle.typed_calls.proofs.calling.callee_of.Goals as goal

pub returns-in-FunctionOf : goal.returns-in-FunctionOf
returns-in-FunctionOf c =
    let parts = c.into_parts-kind in
    let function = c.in-FunctionOf.function in
    callee_by c.args.expr parts.result.2 (kinds.FunctionOf function) (layers.ExprKind-F.FunctionOf function) (callee.Function function)
    parts.ensures.kind c.in-FunctionOf.is (kinds.outs-FunctionOf function) refl

pub returns-in-LiteralOf : goal.returns-in-LiteralOf
returns-in-LiteralOf c =
    let parts = c.into_parts-kind in
    let function = c.in-LiteralOf.function in
    callee_by c.args.expr parts.result.2 (kinds.LiteralOf function) (layers.ExprKind-F.LiteralOf function) (callee.Literal function)
    parts.ensures.kind c.in-LiteralOf.is (kinds.outs-LiteralOf function) refl

pub returns-in-MethodValue : goal.returns-in-MethodValue
returns-in-MethodValue c =
    let parts = c.into_parts-kind in
    let it = c.in-MethodValue in
    callee_by c.args.expr parts.result.2 (kinds.MethodValue it.receiver it.method) (layers.ExprKind-F.MethodValue it.receiver it.method) c.method_callee.result
    parts.ensures.kind it.is (kinds.outs-MethodValue it.receiver it.method) c.method_callee.ensures

pub returns-in_default : goal.returns-in_default
returns-in_default c =
    let parts = c.into_parts-kind in
    let it = c.in_default in
    other_callee c.args.expr parts.result.0 parts.result.1 parts.result.2 c.node.result c.value_callee.result parts.ensures.at parts.ensures.of
    parts.ensures.kind it.not-FunctionOf it.not-LiteralOf it.not-MethodValue c.node.ensures c.value_callee.ensures
