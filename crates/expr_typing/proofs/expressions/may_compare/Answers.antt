use Rattle.std.proofs.Common.{◌≡◌, ◌&&◌, ◌||◌, ◌∙◌, ap, sym}
use Rattle.go_type.specs.Assignable.{underlying_term_of}
use Rattle.go_type.specs.Same.{same_id}
use Rattle.type_shapes.specs.Shapes.{is_truth}
use Rattle.typed_trees.specs.Expressions.{seen}
use Rattle.typed_trees.specs.Nodes.{is_nothing}
use Rattle.expr_typing.specs.Parts.{compares}
use Rattle.expr_typing.specs.Telling.{at_tests}
use Rattle.expr_typing.proofs.Layers.{of_is}
use Rattle.expr_typing.proofs.Lists.{comparison_is}
use Rattle.expr_typing.proofs.expressions.may_compare.Goals as goal

pub returns : goal.returns
returns c = λ told.
    let a = at_tests c.args.around told.tests in
    let left = c.args.left.now in
    let right = c.args.right.now in
    let first : c.is_nothing.result ≡ is_nothing (seen a left).form = c.is_nothing.ensures ∙ ap is_nothing (c.form_of.ensures a) in
    let second : c.is_nothing-2.result ≡ is_nothing (seen a right).form = c.is_nothing-2.ensures ∙ ap is_nothing (c.form_of-2.ensures a) in
    c.fits_comparison.ensures told
    ∙ ((λ i. same_id (sym (of_is a left) i) (sym (of_is a right) i)
    && (compares a c.args.op (sym (of_is a left) i) (first i || second i) && is_truth (underlying_term_of c.args.around.program.now.types c.args.of)))
    ∙ sym (comparison_is a c.args.op (seen a left) (seen a right) c.args.of))
