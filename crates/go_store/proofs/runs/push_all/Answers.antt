use Rattle.std.proofs.Common.{◌∷◌, [], ◌∙◌, ap, sym, map}
use Rattle.std.proofs.lemmas.List.{take_all}
use Rattle.go_value.specs.Values.{Val, value_of}
use Rattle.go_store.specs.Arrays.{with_elements}
use Rattle.go_store.specs.Cells.{held}
use Rattle.go_store.proofs.Lengthened.{next_item, no_more}
use Rattle.go_store.proofs.runs.push_all.Goals as goal

pub loop-item-init : goal.loop-item-init
loop-item-init c = sym (no_more (held c.args.array.now))

pub loop-item-preserved : goal.loop-item-preserved
loop-item-preserved c =
    next_item c.args.items.now c.loop-item.item-index c.item-item.result c.item-item.result (held c.args.array.now) (held c.loop-item.array) _ c.loop-item.invariant
    (c.in_ok-push_element.ensures ∙ ap (λ (v : Val). with_elements (v ∷ []) (held c.loop-item.array)) c.in_ok-cell_of_copy.ensures)
    c.loop-item-test.true c.item-item.is

pub returns : goal.returns
returns c = c.loop-item.invariant ∙ ap (λ xs. with_elements (map value_of xs) (held c.args.array.now)) (take_all c.loop-item.item-index c.args.items.now c.loop-item-test.false)
