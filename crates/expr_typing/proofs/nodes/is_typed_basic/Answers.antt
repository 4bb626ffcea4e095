use Rattle.std.proofs.Common.{◌∙◌, Some, ap, sym}
use Rattle.typed_trees.specs.Nodes as node
use Rattle.expr_typing.specs.Telling.{at_tests}
use Rattle.expr_typing.proofs.Lists.{typed_same}
use Rattle.expr_typing.proofs.nodes.is_typed_basic.Goals as goal

pub returns-in-Some-Basic : goal.returns-in-Some-Basic
returns-in-Some-Basic c = λ tests.
    let a = at_tests c.args.around tests in
    c.is_typed.ensures
    ∙ (sym (typed_same a c.in-Some-Basic.basic) ∙ ap (node.is_typed_basic a) (sym (ap Some c.in-Some-Basic.field-0-is) ∙ c.in-Some-Basic.ensures))
