use Rattle.std.proofs.Common.{◌∙◌, ap, sym, Option, Some}
use Rattle.expr_typing.specs.Telling.{at_tests}
use Rattle.go_type.specs.declared.term.TypeTerm.{TypeTerm}
use Rattle.typed_trees.specs.Targets.{pointed_elements}
use Rattle.program_typing.proofs.turns.pointed_elements.Goals as goal

pub returns-in-Some-Pointer : goal.returns-in-Some-Pointer
returns-in-Some-Pointer c = λ tests. c.array_elements.ensures (at_tests c.args.around tests) ∙ ap (λ (t : Option TypeTerm). pointed_elements (at_tests c.args.around tests) t) (ap Some (sym c.in-Some-Pointer.field-0-is) ∙ c.in-Some-Pointer.ensures.term)
