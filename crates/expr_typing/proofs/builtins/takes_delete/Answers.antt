use Rattle.std.proofs.Common.{◌≤◌, ◌<◌, ◌&&◌, ◌∙◌, sym, length, arith}
use Rattle.expr_typing.specs.Telling.{at_tests}
use Rattle.expr_typing.proofs.Takes.{delete_two}
use Rattle.expr_typing.proofs.builtins.takes_delete.Goals as goal

pub returns-in-len2 : goal.returns-in-len2
returns-in-len2 c = λ tests.
    let low : 2 ≤ length c.args.arguments.now = omega (arith, c.in-len2.len_at_least) in
    let high : length c.args.arguments.now < 3 = omega (arith, c.in-len2.len_below) in
    (λ i. c.deletes.ensures tests i && c.gives_nothing.ensures i)
    ∙ sym (delete_two (at_tests c.args.around tests) c.args.of c.args.arguments.now c.table-item.result c.key-item.result low high c.table-item.is c.key-item.is)
