use Rattle.std.proofs.Common.{sym, ◌∙◌, List, Some}
use Rattle.go_tree.specs.declared.exprs.FieldInit.{FieldInit}
use Rattle.typed_parts.specs.Joining.{listed, only}
use Rattle.typed_parts.proofs.Turns.{nothing, nothing_came, something}
use Rattle.typed_literals.specs.Structs.{AreOfEach}
use Rattle.typed_literals.proofs.Structures.{numbered_by, vec_gone, vec_kept}
use Rattle.typed_literals.proofs.structs.numbered_fields.Goals as goal

pub returns-in-Some : goal.returns-in-Some
returns-in-Some c =
    let v = c.args.elements in
    let mid = c.ask_number-fits.new.ground in
    let told = c.ask_number-fits.result in
    numbered_by c.args.ground.now mid c.each_field.new.ground c.args.of v.items told (listed c.each_field.result) (cc) (cc)
    (something mid c.each_field.new.ground (AreOfEach c.args.of) (only (Some v.items) told) c.in-Some.elements.items (listed c.each_field.result)
    (vec_kept v c.in-Some.elements told (sym c.only.ensures ∙ c.in-Some.is)) c.each_field.ensures)

pub returns-in-None : goal.returns-in-None
returns-in-None c =
    let v = c.args.elements in
    let mid = c.ask_number-fits.new.ground in
    let told = c.ask_number-fits.result in
    numbered_by c.args.ground.now mid mid c.args.of v.items told (nothing_came {A = List FieldInit}) (cc) (cc)
    (nothing mid (AreOfEach c.args.of) (only (Some v.items) told) (vec_gone v told (sym c.only.ensures ∙ c.in-None.is)))
