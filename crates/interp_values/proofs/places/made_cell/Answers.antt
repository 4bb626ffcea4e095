use Rattle.std.proofs.Common.{◌≡◌, ◌∙◌, [], Some, ap, refl, sym}
use Rattle.go_store.specs.Stores.{made, stored}
use Rattle.go_value.specs.Values.{pointer, value_of}
use Rattle.ssa_mean.specs.Comes.{to}
use Rattle.ssa_mean.specs.Places.{new_pointer}
use Rattle.interp_values.proofs.places.made_cell.Goals as goal

pub returns : goal.returns
returns c =
    let store = stored c.args.machine.now.store in
    let at : new_pointer store ≡ c.whole.result =
    ap (λ n. record { cell = Some (record { number = n }); path = [] }) (sym c.in_ok-cell.ensures.number)
    ∙ sym c.whole.ensures in
    let value = ap pointer at in
    let after : made store (value_of c.args.zero.now.value) ≡ stored c.make_cell.new.self =
    ap (made store) (sym (c.in_ok-value.ensures ∙ ap value_of c.deref.ensures)) ∙ sym c.in_ok-cell.ensures.ok in
    ((λ i. to (record { value = value i; store = after i })), refl)
