use Rattle.std.proofs.Common.{◌≤◌, ◌&&◌, ◌∙◌, sym, length, arith}
use Rattle.expr_typing.specs.Telling.{at_tests}
use Rattle.expr_typing.proofs.Takes.{max_all, min_all}
use Rattle.expr_typing.proofs.builtins.takes_max.Goals as goal

pub returns-in-len1-up-clause-max : goal.returns-in-len1-up-clause-max
returns-in-len1-up-clause-max c = λ tests.
    let low : 1 ≤ length c.args.arguments.now = omega (arith, c.in-len1-up.len_at_least) in
    (λ i. c.is_ordered.ensures i && c.are_of.ensures i) ∙ sym (max_all (at_tests c.args.around tests) c.args.of c.args.arguments.now low)

pub returns-in-len1-up-clause-min : goal.returns-in-len1-up-clause-min
returns-in-len1-up-clause-min c = λ tests.
    let low : 1 ≤ length c.args.arguments.now = omega (arith, c.in-len1-up.len_at_least) in
    (λ i. c.is_ordered.ensures i && c.are_of.ensures i) ∙ sym (min_all (at_tests c.args.around tests) c.args.of c.args.arguments.now low)
