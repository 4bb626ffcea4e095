use Rattle.std.proofs.Common.{◌∙◌, sym, ap, None}
use Rattle.std.specs.Option.{option_map}
use Rattle.typed_literals.proofs.Items.{item_came, item_in}
use Rattle.typed_literals.proofs.arrays.item_in.Goals as goal

pub returns-in-Some : goal.returns-in-Some
returns-in-Some c = λ limit before met.
    item_came c.args.ground.now c.element_index-index.new.ground c.one_value-value.new.ground c.free_index-index.new.ground c.assigned-value.new.ground
    c.args.elem c.args.element limit before c.args.row.now c.free_index-index.new.row
    c.element_index-index.result c.in_ok-index.index c.in_ok-index.value c.one_value-value.result c.in_ok-index-2.value
    c.free_index-index.result c.in_ok-index-2.index c.assigned-value.result c.in_ok-index-3.field-0 _
    met c.element_index-index.ensures (sym c.beside.ensures ∙ c.in_ok-index.was) c.one_value-value.ensures.answer c.one_value-value.ensures.broken
    (c.free_index-index.ensures limit before met) (sym c.beside-2.ensures ∙ c.in_ok-index-2.was) c.assigned-value.ensures
    (sym c.both.ensures ∙ c.in_ok-index-3.was) (ap (option_map item_in) (sym c.in-Some.is))

pub returns-in-None : goal.returns-in-None
returns-in-None c = λ limit before met.
    item_came c.args.ground.now c.element_index-index.new.ground c.one_value-value.new.ground c.free_index-index.new.ground c.assigned-value.new.ground
    c.args.elem c.args.element limit before c.args.row.now c.free_index-index.new.row
    c.element_index-index.result c.in_ok-index.index c.in_ok-index.value c.one_value-value.result c.in_ok-index-2.value
    c.free_index-index.result c.in_ok-index-2.index c.assigned-value.result c.in_ok-index-3.field-0 None
    met c.element_index-index.ensures (sym c.beside.ensures ∙ c.in_ok-index.was) c.one_value-value.ensures.answer c.one_value-value.ensures.broken
    (c.free_index-index.ensures limit before met) (sym c.beside-2.ensures ∙ c.in_ok-index-2.was) c.assigned-value.ensures
    (sym c.both.ensures ∙ c.in_ok-index-3.was) (ap (option_map item_in) (sym c.in-None.is))
