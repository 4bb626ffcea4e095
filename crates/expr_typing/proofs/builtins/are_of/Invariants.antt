use Rattle.std.proofs.Common.{◌≡◌, true, take}
use Rattle.std.specs.List.{list_all}
use Rattle.go_type.specs.Same.{same_id}
use Rattle.expr_typing.proofs.builtins.are_of.Given as goal

abbrev pub invariant-loop-expr : goal.invariant-loop-expr
invariant-loop-expr l = list_all (λ x. same_id x.of l.of) (take l.expr-index l.exprs) ≡ true
