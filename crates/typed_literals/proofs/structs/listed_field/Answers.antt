use Rattle.std.proofs.Common.{◌≡◌, sym, ◌∙◌, subst, Some, None}
use Rattle.std.specs.Option.{option_zip}
use Rattle.typed_parts.specs.Judged.{Comes}
use Rattle.typed_literals.specs.declared.structs.Element.{Element}
use Rattle.typed_parts.specs.Shapes.{fields_of}
use Rattle.typed_literals.specs.Structs.{IsValueOf, listed_field}
use Rattle.typed_literals.proofs.Structures.{listed_made, listed_nothing, zip_first, zip_nothing, zip_second}
use Rattle.typed_literals.proofs.structs.listed_field.Goals as goal

pub returns-in-Some : goal.returns-in-Some
returns-in-Some c =
    let old = c.args.ground.now in
    let element = c.args.element in
    let place = c.listed_place-place.result in
    let there : place ≡ listed_field (fields_of old.types c.args.of) c.args.number element = cc in
    let pair : option_zip place (Some element) ≡ Some (c.in-Some.place, c.in-Some.element) = cc in
    let first = zip_first place element c.in-Some.place c.in-Some.element pair in
    let same = zip_second place element c.in-Some.place c.in-Some.element pair in
    listed_made old c.field_value.new.ground element.value (listed_field (fields_of old.types c.args.of) c.args.number element) c.in-Some.place c.field_value.result (sym there ∙ first)
    (subst (λ (e : Element). Comes old c.field_value.new.ground c.field_value.result (IsValueOf old.types e.value c.in-Some.place)) (sym same) c.field_value.ensures)

pub returns-in-None : goal.returns-in-None
returns-in-None c =
    let old = c.args.ground.now in
    let element = c.args.element in
    let place = c.listed_place-place.result in
    let there : place ≡ listed_field (fields_of old.types c.args.of) c.args.number element = cc in
    let pair : option_zip place (Some element) ≡ None = cc in
    listed_nothing old element.value (listed_field (fields_of old.types c.args.of) c.args.number element) (sym there ∙ zip_nothing place element pair)
