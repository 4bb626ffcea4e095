use Rattle.std.proofs.Common.{◌≡◌, ◌∷◌, [], ◌∙◌, ap, sym, ℤ, arith}
use Rattle.std.specs.Global.{Vec}
use Rattle.std.specs.Int.{w128}
use Rattle.std.proofs.lemmas.Int.{to_z-of_z}
use Rattle.std.proofs.lemmas.Int.{ints}
use Rattle.std.proofs.Common.{to_z, of_z}
use Rattle.go_value.specs.Values as vals
use Rattle.go_value.specs.Values.{Val}
use Rattle.go_store.specs.Arrays.{with_elements}
use Rattle.go_store.specs.Cells.{held, packed, spread}
use Rattle.go_store.specs.declared.cells.Place.{Place}
use Rattle.go_store.proofs.Held.{ints_are, many_are}
use Rattle.go_store.proofs.Reached.{on_ok, some_number}
use Rattle.go_store.proofs.Written.{put_many_is, put_ints_is}
use Rattle.go_store.proofs.runs.push_element.Goals as goal

pub returns-in-Some : goal.returns-in-Some
returns-in-Some c =
    let plain : to_z w128 (of_z w128 c.in-Some.number) ≡ c.in-Some.number = grind (arith, ints, to_z-of_z) in
    on_ok c.push_number.result c.push_number.ensures (λ same.
    ap held (put_ints_is c.args.array.now c.in-Ints.ints c.push_number.new.ints c.in-Ints.is)
    ∙ ints_are c.push_number.new.ints
    ∙ same
    ∙ ap (λ (v : Vec ℤ). with_elements (vals.number (to_z w128 (of_z w128 c.in-Some.number)) ∷ []) (packed v.items)) c.in-Ints.ints-is
    ∙ ap (λ (it : Val). with_elements (it ∷ []) (packed c.in-Ints.ints.items)) (ap vals.number plain ∙ some_number c.whole_int.result c.in-Some.number (held c.args.element) c.whole_int.ensures c.in-Some.is)
    ∙ sym (ap (with_elements (held c.args.element ∷ [])) (ap held c.in-Ints.is ∙ ints_are c.in-Ints.ints)))

pub returns-in-Many : goal.returns-in-Many
returns-in-Many c = on_ok c.push_place.result c.push_place.ensures (λ same.
    ap held (put_many_is c.args.array.now c.in-Many.places c.push_place.new.places c.in-Many.is)
    ∙ many_are c.push_place.new.places
    ∙ same
    ∙ ap (λ (v : Vec Place). with_elements (held c.args.element ∷ []) (spread v.items)) c.in-Many.places-is
    ∙ sym (ap (with_elements (held c.args.element ∷ [])) (ap held c.in-Many.is ∙ many_are c.in-Many.places)))
