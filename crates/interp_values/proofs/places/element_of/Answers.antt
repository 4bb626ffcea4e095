use Rattle.std.proofs.Common.{◌≡◌, ◌∙◌, Ok, ap, rules, sym}
use Rattle.std.proofs.lemmas.Int.{to_z-of_z}
use Rattle.std.specs.Int.{w128}
use Rattle.std.specs.Int.RustNames.{FitsSigned}
use Rattle.go_store.specs.Slices.{element_of}
use Rattle.interp_values.proofs.Followed.{slice_element_is}
use Rattle.interp_values.proofs.places.element_of.Goals as goal

pub returns : goal.returns
returns c =
    let fits : FitsSigned w128 c.in_ok-index.index = search rules in
    let is : element_of c.in_ok-slice.field-0.now c.in_ok-index.index ≡ Ok c.in_ok-address.address =
    ap (element_of c.in_ok-slice.field-0.now) (sym (to_z-of_z w128 c.in_ok-index.index fits))
    ∙ c.in_ok-address.ensures in
    slice_element_is c.args.machine.now c.args.operand.now c.args.index.now c.in_ok-slice.field-0.now
    c.in_ok-index.index (Ok c.in_ok-address.address) c.in_ok-slice.ensures c.in_ok-index.ensures is
