use Rattle.std.proofs.Common.{◌≡◌, ◌∙◌, ap, arith, to_z, of_z}
use Rattle.std.specs.Int.{w128}
use Rattle.std.proofs.lemmas.Int.{ints, to_z-of_z}
use Rattle.go_value.specs.Values as vals
use Rattle.go_value.specs.Values.{Val, value_of}
use Rattle.go_store.specs.Stores.{stored, with_part_in}
use Rattle.go_store.proofs.Reached.{on_ok, some_number}
use Rattle.go_store.proofs.store.Store.write_part.Goals as goal

pub returns-in-Some-clause-ok : goal.returns-in-Some-clause-ok
returns-in-Some-clause-ok c =
    let plain : to_z w128 (of_z w128 c.in-Some.number) ≡ c.in-Some.number = grind (arith, ints, to_z-of_z) in
    on_ok c.write_int_part.result c.write_int_part.ensures.ok (λ same.
    same
    ∙ ap (λ (it : Val). with_part_in (λ _. it) (stored c.args.self.now) c.args.cell c.args.steps.now) (ap vals.number plain ∙ some_number c.integer.result c.in-Some.number (value_of c.args.value) c.integer.ensures c.in-Some.is))
