use Rattle.std.proofs.Common.{◌&&◌, ◌∙◌, sym}
use Rattle.expr_typing.specs.Telling.{at_tests}
use Rattle.expr_typing.proofs.Lists.{all_printed}
use Rattle.expr_typing.proofs.builtins.takes_printed.Goals as goal

pub returns-clause-print : goal.returns-clause-print
returns-clause-print c = λ tests. λ i. (c.are_printed.ensures ∙ sym (all_printed (at_tests c.args.around tests) c.args.arguments.now)) i && c.gives_nothing.ensures i

pub returns-clause-println : goal.returns-clause-println
returns-clause-println c = λ tests. λ i. (c.are_printed.ensures ∙ sym (all_printed (at_tests c.args.around tests) c.args.arguments.now)) i && c.gives_nothing.ensures i
