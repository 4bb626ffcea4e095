use Rattle.std.proofs.Common.{◌&&◌, ◌∙◌, ap, sym, map}
use Rattle.typed_trees.specs.BuiltIns as built_in
use Rattle.expr_typing.specs.Telling.{at_tests}
use Rattle.expr_typing.specs.Trees.{typed_as}
use Rattle.expr_typing.proofs.builtins.makes.Goals as goal

pub returns-in-Some : goal.returns-in-Some
returns-in-Some c = λ tests.
    (λ i. c.eq.ensures i && c.are_sizes.ensures tests i)
    ∙ ap (λ o. built_in.makes (at_tests c.args.around tests) o (map typed_as c.args.sizes.now) c.args.of) (sym c.in-Some.is)
