use Rattle.std.proofs.Common.{◌∙◌, ◌&&◌, ap, sym}
use Rattle.go_type.specs.Assignable.{underlying_term_of}
use Rattle.typed_trees.specs.BuiltIns as built_in
use Rattle.expr_typing.specs.Telling.{at_tests}
use Rattle.expr_typing.proofs.Lists.{all_integers, count_map}
use Rattle.expr_typing.proofs.builtins.are_sizes.Goals as goal

pub returns : goal.returns
returns c = λ tests.
    let a = at_tests c.args.around tests in
    λ i. (c.takes_sizes.ensures tests ∙ ap (built_in.takes_sizes a (underlying_term_of c.args.around.program.now.types c.args.of)) (sym (count_map c.args.sizes.now))) i
    && (c.have_integers.ensures ∙ sym (all_integers a c.args.sizes.now)) i
