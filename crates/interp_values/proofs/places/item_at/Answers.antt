use Rattle.std.proofs.Common.{◌≡◌, ◌∙◌, ap, length, subst, sym}
use Rattle.std.proofs.lemmas.Int.{to_z-of_z}
use Rattle.std.specs.Int.{w128}
use Rattle.go_value.specs.Texts.{place_at}
use Rattle.go_value.specs.Values as vals
use Rattle.go_value.specs.Values.{parts_of}
use Rattle.ssa_mean.specs.Places.{element_value}
use Rattle.interp_state.specs.Turns.{IsGiven}
use Rattle.interp_values.proofs.Outcomes.{fault_met}
use Rattle.interp_values.proofs.PartValues.{no_item, item_is}
use Rattle.interp_values.proofs.places.item_at.Goals as goal

pub returns-in_err-place : goal.returns-in_err-place
returns-in_err-place c =
    let checked : c.check_index.result ≡ place_at c.args.index (length c.args.parts.now) =
    c.check_index.ensures
    ∙ ap (λ n. place_at n (length c.args.parts.now)) (to_z-of_z w128 c.args.index c.ranges.index) in
    fault_met
    (λ outcome. IsGiven outcome (element_value (vals.parts (parts_of c.args.parts.now)) c.args.index))
    c.from_residual.result c.in_err-place.field-0.0 c.from_residual.ensures.1
    (no_item c.args.parts.now c.args.index c.in_err-place.field-0.0 (sym checked ∙ c.in_err-place.was))

pub returns : goal.returns
returns c =
    let checked : c.check_index.result ≡ place_at c.args.index (length c.args.parts.now) =
    c.check_index.ensures
    ∙ ap (λ n. place_at n (length c.args.parts.now)) (to_z-of_z w128 c.args.index c.ranges.index) in
    subst (IsGiven c.nth_part.result)
    (sym (item_is c.args.parts.now c.args.index c.in_ok-place.place (sym checked ∙ c.in_ok-place.was)))
    c.nth_part.ensures
