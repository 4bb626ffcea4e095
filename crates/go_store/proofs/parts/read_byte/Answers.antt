use Rattle.std.proofs.Common.{◌≡◌, ◌∙◌, ap, sym, Some, arith}
use Rattle.std.specs.Int.{w128}
use Rattle.std.proofs.lemmas.Int.{ints, to_z-of_z}
use Rattle.std.proofs.Common.{to_z, of_z}
use Rattle.go_value.specs.Values as vals
use Rattle.go_store.proofs.Reached.{some_integer}
use Rattle.go_store.proofs.parts.read_byte.Goals as goal

pub returns-in-Some : goal.returns-in-Some
returns-in-Some c =
    let same : to_z w128 (of_z w128 c.in-Some.number) ≡ c.in-Some.number = grind (arith, ints, to_z-of_z) in
    some_integer _ c.in-Some.number (sym c.byte_at.ensures ∙ c.in-Some.is) ∙ ap Some (sym (ap vals.number same))
