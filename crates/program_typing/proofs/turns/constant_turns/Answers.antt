use Rattle.std.proofs.Common.{◌∙◌, ap, sym, Option, Bool}
use Rattle.go_base.specs.declared.ids.TypeId.{TypeId}
use Rattle.expr_typing.specs.Telling.{at_tests}
use Rattle.go_type.specs.Assignable.{underlying_term_of}
use Rattle.typed_trees.specs.Targets.{with_elements, constant_turns, elements_below}
use Rattle.program_typing.proofs.turns.constant_turns.Goals as goal

pub returns : goal.returns
returns c = λ tests. c.with_elements.ensures (at_tests c.args.around tests) ∙ (ap (λ (e : Option TypeId). with_elements (at_tests c.args.around tests) e) (c.elements_below.ensures tests) ∙ ap (λ (b : Bool). constant_turns (at_tests c.args.around tests) b (elements_below (at_tests c.args.around tests) (underlying_term_of c.args.around.program.now.types c.args.of))) (sym c.if-not-is_array_of.false ∙ c.is_array_of.ensures tests))
