use Rattle.std.proofs.Common.{◌∷◌, ◌∙◌, ap}
use Rattle.std.specs.Int.{w128}
use Rattle.std.proofs.lemmas.Int.{to_z-of_z}
use Rattle.std.proofs.lemmas.List.{with_items_is}
use Rattle.go_value.specs.Values as vals
use Rattle.go_store.specs.Cells.{packed, written_at}
use Rattle.go_store.proofs.Held.{ints_are}
use Rattle.go_store.proofs.parts.write_wide.Goals as goal

pub returns-clause-ok : goal.returns-clause-ok
returns-clause-ok c =
    let steps = c.args.step ∷ c.args.rest.now in
    ints_are _
    ∙ ap packed (with_items_is c.in_ok-ints.ints c.write_number.new.ints (c.write_number.auto.ints ∙ c.as_mut_slice.ensures.len))
    ∙ c.in_ok-write_number.ensures.ok
    ∙ ap (λ n. written_at (vals.number n) (packed c.as_mut_slice.result.now) steps) (to_z-of_z w128 c.args.number c.ranges.number)
    ∙ ap (λ xs. written_at (vals.number c.args.number) (packed xs) steps) c.as_mut_slice.ensures.value
    ∙ ap (λ it. written_at (vals.number c.args.number) it steps) c.in_ok-ints.ensures
