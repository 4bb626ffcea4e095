use Rattle.std.proofs.Common.{◌≤◌, ◌<◌, ◌&&◌, ◌∙◌, sym, length, arith}
use Rattle.expr_typing.specs.Telling.{at_tests}
use Rattle.expr_typing.proofs.Takes.{clear_one}
use Rattle.expr_typing.proofs.builtins.takes_clear.Goals as goal

pub returns-in-len1 : goal.returns-in-len1
returns-in-len1 c = λ tests.
    let low : 1 ≤ length c.args.arguments.now = omega (arith, c.in-len1.len_at_least) in
    let high : length c.args.arguments.now < 2 = omega (arith, c.in-len1.len_below) in
    (λ i. c.is_cleared.ensures tests i && c.gives_nothing.ensures i)
    ∙ sym (clear_one (at_tests c.args.around tests) c.args.of c.args.arguments.now c.one-item.result low high c.one-item.is)
