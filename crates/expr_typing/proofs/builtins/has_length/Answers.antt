use Rattle.std.proofs.Common.{◌∙◌, Some, ap, sym}
use Rattle.typed_trees.specs.BuiltIns as built_in
use Rattle.expr_typing.specs.Telling.{at_tests}
use Rattle.expr_typing.proofs.builtins.has_length.Goals as goal

pub returns-in-Some-Pointer : goal.returns-in-Some-Pointer
returns-in-Some-Pointer c = λ tests.
    c.is_array.ensures tests
    ∙ ap (built_in.has_length (at_tests c.args.around tests)) (sym (ap Some c.in-Some-Pointer.field-0-is) ∙ c.in-Some-Pointer.ensures.term)
