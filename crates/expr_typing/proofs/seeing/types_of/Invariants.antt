use Rattle.std.proofs.Common.{◌≡◌, map, take}
use Rattle.expr_typing.proofs.seeing.types_of.Given as goal

abbrev pub invariant-loop-expr : goal.invariant-loop-expr
invariant-loop-expr l = l.types.items ≡ map (λ x. x.of) (take l.expr-index l.exprs)
