use Rattle.std.proofs.Common.{◌≡◌, ◌+◌, ◌*◌, ◌∙◌, ap, sym, List, arith}
use Rattle.std.proofs.lemmas.Grind.{common_steps}
use Rattle.std.proofs.lemmas.List.{take_all}
use Rattle.go_store.specs.Cells.{place_of}
use Rattle.go_value.specs.Falls.{heaviest}
use Rattle.go_value.specs.Values.{Field, parts_of}
use Rattle.go_value.specs.declared.values.Dynamic.TheDeep.{deep-Value}
use Rattle.go_value.specs.declared.values.Value.TheVariants as values
use Rattle.go_value.specs.Values as vals
use Rattle.go_store.proofs.Held.{place_of_part, many_are}
use Rattle.go_store.proofs.Mapped.{shown_push}
use Rattle.go_store.proofs.cells.+unpack.Goals as goal

pub cell_of_copy-cell_of_parts-requires : goal.cell_of_copy-cell_of_parts-requires
cell_of_copy-cell_of_parts-requires t c =
    let deep : 2 * (3 * deep-Value (values.Parts c.in-Parts.parts) + 2) + 0 ≡ t = ap (λ v. 2 * (3 * deep-Value v + 2) + 0) (sym c.in-Parts.is) ∙ c.decreases in
    let same = c.as_slice.ensures.value ∙ ap (λ v. v.items) c.deref.ensures in
    (rw same (omega (arith, deep, heaviest c.in-Parts.parts.value.items)), tt)

pub cell_of_parts-loop-part-preserved : goal.cell_of_parts-loop-part-preserved
cell_of_parts-loop-part-preserved t c =
    let it = c.part-item.result in
    let pushed = shown_push place_of c.loop-part.places.items c.args.parts.now c.loop-part.part-index (record { cell = c.in_ok-cell.cell; blank = c.part.inside.blank }) it it c.loop-part.invariant (place_of_part _ c.in_ok-cell.cell c.in_ok-cell.ensures ∙ c.part.view_is) c.loop-part-test.true c.part-item.is in
    grind (arith, common_steps)

pub cell_of_parts-returns : goal.cell_of_parts-returns
cell_of_parts-returns t c =
    many_are c.loop-part.places ∙ ap (λ (fields : List Field). vals.parts (parts_of fields)) (c.loop-part.invariant ∙ take_all c.loop-part.part-index c.args.parts.now c.loop-part-test.false)
