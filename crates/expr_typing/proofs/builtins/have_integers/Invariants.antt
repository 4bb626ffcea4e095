use Rattle.std.proofs.Common.{◌≡◌, true, take}
use Rattle.std.specs.List.{list_all}
use Rattle.expr_typing.specs.Parts.{is_integer_type}
use Rattle.expr_typing.proofs.builtins.have_integers.Given as goal

abbrev pub invariant-loop-expr : goal.invariant-loop-expr
invariant-loop-expr l = list_all (λ x. is_integer_type l.around.program.now.types x.of) (take l.expr-index l.exprs) ≡ true
