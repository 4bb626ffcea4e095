use Rattle.std.proofs.Common.{subst}
use Rattle.go_tree.specs.declared.exprs.TypedExpr.{TypedExpr}
use Rattle.typed_parts.specs.Adapting.{IsPassed}
use Rattle.typed_parts.specs.Judged.{Comes}
use Rattle.typed_parts.proofs.adapting.assigned_part.Goals as goal

pub returns : goal.returns
returns c =
    subst (λ (x : TypedExpr). Comes c.args.ground.now c.passed.new.ground c.passed.result (IsPassed c.args.ground.now.types c.args.at x c.args.to)) c.node.ensures c.passed.ensures
