use Rattle.std.proofs.Common.{◌∙◌, pos, arith}
use Rattle.std.proofs.lemmas.Int.{ints, to_z-of_z}
use Rattle.go_store.specs.Cells.{plain_number}
use Rattle.go_store.proofs.Mapped.{made_push}
use Rattle.go_store.proofs.cells.whole_ints.Goals as goal

pub loop-number-preserved : goal.loop-number-preserved
loop-number-preserved c =
    c.in_ok-push.ensures.items ∙ made_push plain_number c.loop-number.parts.items c.args.ints.now c.loop-number.number-index c.plain.result (pos 0) _ c.loop-number.invariant c.plain.ensures c.loop-number-test.true (grind (arith, ints, to_z-of_z))
