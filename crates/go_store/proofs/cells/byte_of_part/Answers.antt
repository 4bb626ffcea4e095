use Rattle.std.proofs.Common.{◌≡◌, ◌∙◌, sym, pos, arith}
use Rattle.std.proofs.lemmas.Int.{ints, to_z-of_z}
use Rattle.go_store.proofs.Integers.{plain_byte_from}
use Rattle.go_store.proofs.cells.byte_of_part.Goals as goal

pub returns-in-Ok : goal.returns-in-Ok
returns-in-Ok c =
    let same : c.in_ok-number.number ≡ pos c.in-Ok.byte = grind (arith, ints, to_z-of_z) in
    sym c.part.view_is ∙ plain_byte_from _ c.in_ok-number.number c.in-Ok.byte c.if-part.false c.in_ok-number.ensures same
