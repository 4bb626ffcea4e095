use Rattle.std.proofs.Common.{◌≡◌, true, take}
use Rattle.std.specs.List.{list_all}
use Rattle.expr_typing.specs.Parts.{is_printed_type}
use Rattle.expr_typing.proofs.builtins.are_printed.Given as goal

abbrev pub invariant-loop-expr : goal.invariant-loop-expr
invariant-loop-expr l = list_all (λ x. is_printed_type l.around.program.now.types x.of) (take l.expr-index l.exprs) ≡ true
