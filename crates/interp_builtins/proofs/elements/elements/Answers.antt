use Rattle.std.proofs.Common.{◌≡◌, ◌∙◌, ◌+◌, ◌^◌, ◌<◌, ◌∷◌, [], Some, ap, sym, arith, add-one, map}
use Rattle.std.proofs.lemmas.List.{map-append}
use Rattle.go_store.specs.Slices.{last_step}
use Rattle.go_store.specs.Stores.{stored}
use Rattle.go_value.specs.Values.{value_of}
use Rattle.interp_builtins.proofs.Slices.{elements_are, first_of, one_more}
use Rattle.interp_builtins.proofs.elements.elements.Goals as goal

pub loop-index-preserved : goal.loop-index-preserved
loop-index-preserved c =
    let store = stored c.args.store.now in
    let at = c.args.slice.now.at in
    let i = c.loop-index.index in
    let items = c.loop-index.items.items in
    let it = c.in_ok-element_at.field-0 in
    let some : 0 < c.most_places.result = omega (arith, c.loop-index-test.true, c.if-slice-most_places.false) in
    let within = c.most_places.ensures some in
    let small : last_step at + i < 2 ^ 32 =
    omega (arith, within.1, c.loop-index-test.true, c.if-slice-most_places.false) in
    ap (first_of store at) (add-one i)
    ∙ one_more store at i (map value_of items) (value_of it) within.0 small c.loop-index.invariant
    (c.in_ok-element_at.ensures c.loop-index-test.true)
    ∙ ap (λ them. Some them) (sym (ap (map value_of) c.in_ok-push.ensures.items ∙ map-append value_of items (it ∷ [])))

pub returns : goal.returns
returns c =
    let store = stored c.args.store.now in
    let at = c.args.slice.now.at in
    let done : c.args.slice.now.len ≡ c.loop-index.index =
    omega (arith, c.loop-index-test.false, c.loop-index.auto.index-end) in
    elements_are store c.args.slice.now ∙ ap (first_of store at) done ∙ c.loop-index.invariant
