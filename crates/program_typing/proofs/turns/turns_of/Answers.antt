use Rattle.std.proofs.Common.{◌∙◌, ap, sym, Option, Bool}
use Rattle.go_base.specs.declared.ids.TypeId.{TypeId}
use Rattle.expr_typing.specs.Telling.{at_tests}
use Rattle.go_tree.specs.declared.stmts.RangeOver.{RangeOver}
use Rattle.typed_trees.specs.Targets.{turns_of, with_elements, text_turns, channel_turns}
use Rattle.program_typing.proofs.turns.turns_of.Goals as goal

pub returns-in-Array : goal.returns-in-Array
returns-in-Array c = λ tests. c.with_elements.ensures (at_tests c.args.around tests) ∙ ap (λ (e : Option TypeId). with_elements (at_tests c.args.around tests) e) (c.array_elements.ensures (at_tests c.args.around tests)) ∙ ap (λ (o : RangeOver). turns_of (at_tests c.args.around tests) o c.args.of) (sym c.in-Array.is)

pub returns-in-ArrayPointer : goal.returns-in-ArrayPointer
returns-in-ArrayPointer c = λ tests. c.with_elements-in-ArrayPointer.ensures (at_tests c.args.around tests) ∙ ap (λ (e : Option TypeId). with_elements (at_tests c.args.around tests) e) (c.pointed_elements.ensures tests) ∙ ap (λ (o : RangeOver). turns_of (at_tests c.args.around tests) o c.args.of) (sym c.in-ArrayPointer.is)

pub returns-in-Slice : goal.returns-in-Slice
returns-in-Slice c = λ tests. c.with_elements-in-Slice.ensures (at_tests c.args.around tests) ∙ ap (λ (e : Option TypeId). with_elements (at_tests c.args.around tests) e) (c.slice_elements.ensures (at_tests c.args.around tests)) ∙ ap (λ (o : RangeOver). turns_of (at_tests c.args.around tests) o c.args.of) (sym c.in-Slice.is)

pub returns-in-Text : goal.returns-in-Text
returns-in-Text c = λ tests. c.text_turns.ensures (at_tests c.args.around tests) ∙ ap (λ (b : Bool). text_turns (at_tests c.args.around tests) b) c.is_text.ensures ∙ ap (λ (o : RangeOver). turns_of (at_tests c.args.around tests) o c.args.of) (sym c.in-Text.is)

pub returns-in-Map : goal.returns-in-Map
returns-in-Map c = λ tests. c.map_turns.ensures (at_tests c.args.around tests) ∙ ap (λ (o : RangeOver). turns_of (at_tests c.args.around tests) o c.args.of) (sym c.in-Map.is)

pub returns-in-Channel : goal.returns-in-Channel
returns-in-Channel c = λ tests. c.channel_turns.ensures (at_tests c.args.around tests) ∙ ap (λ (e : Option TypeId). channel_turns (at_tests c.args.around tests) e) c.received_elem.ensures ∙ ap (λ (o : RangeOver). turns_of (at_tests c.args.around tests) o c.args.of) (sym c.in-Channel.is)
