use Rattle.std.proofs.Common.{◌∙◌, ap, sym, Option, Some}
use Rattle.expr_typing.specs.Telling.{at_tests}
use Rattle.go_type.specs.declared.term.TypeTerm.{TypeTerm}
use Rattle.typed_trees.specs.Targets.{is_array_of}
use Rattle.program_typing.proofs.turns.is_array_of.Goals as goal

pub returns-in-Some-Pointer : goal.returns-in-Some-Pointer
returns-in-Some-Pointer c = λ tests. c.has_length.ensures (at_tests c.args.around tests) ∙ ap (λ (t : Option TypeTerm). is_array_of (at_tests c.args.around tests) c.args.len t) (ap Some (sym c.in-Some-Pointer.field-0-is) ∙ c.in-Some-Pointer.ensures.term)
