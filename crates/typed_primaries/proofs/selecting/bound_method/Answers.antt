use Rattle.std.proofs.Common.{sym, subst, Result, Option}
use Rattle.go_base.specs.declared.memory.NoMemory.{NoMemory}
use Rattle.go_tree.specs.declared.exprs.TypedExpr.{TypedExpr}
use Rattle.typed_parts.specs.Turning.{Turns}
use Rattle.typed_primaries.specs.Selecting.{IsBoundMethod}
use Rattle.typed_primaries.proofs.Selects.{method_bound}
use Rattle.typed_primaries.proofs.selecting.bound_method.Goals as goal

pub returns : goal.returns
returns c =
    let old = c.args.ground.now in
    let new = c.receiver.new.ground in
    subst (λ (r : Result (Option TypedExpr) NoMemory). Turns old new r (IsBoundMethod c.args.function c.args.signature c.args.expr)) (sym c.sound.ensures)
    (method_bound old new c.args.function c.args.signature c.args.expr c.in_ok-receiver.receiver c.receiver.result c.method_value.result
    c.receiver.ensures c.in_ok-receiver.was c.method_value.ensures)
