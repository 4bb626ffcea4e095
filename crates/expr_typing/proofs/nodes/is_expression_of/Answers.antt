use Rattle.std.proofs.Common.{◌∙◌, ap, sym}
use Rattle.std.specs.Option.{option_and_then}
use Rattle.go_type.specs.Table.{term_at}
use Rattle.typed_trees.specs.Around as around_of
use Rattle.typed_trees.specs.Nodes as node
use Rattle.expr_typing.specs.Telling.{at_tests}
use Rattle.expr_typing.proofs.nodes.is_expression_of.Goals as goal

pub returns-in-Some : goal.returns-in-Some
returns-in-Some c = λ tests.
    let types = c.args.around.program.now.types in
    c.is_method_expression.ensures tests
    ∙ ap (λ method. node.is_method_expression (at_tests c.args.around tests) c.args.receiver c.args.of (option_and_then (λ m. around_of.signature_in (term_at types m)) method) (around_of.signature_in (term_at types c.args.of)))
    (sym c.in-Some.is)
