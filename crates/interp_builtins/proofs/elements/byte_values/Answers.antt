use Rattle.std.proofs.Common.{◌≡◌, pos, arith, to_z, of_z, get_or}
use Rattle.std.proofs.lemmas.Int.{to_z-of_z, ints}
use Rattle.std.specs.Int.{w128}
use Rattle.interp_builtins.proofs.Slices.{byte_more}
use Rattle.interp_builtins.proofs.elements.byte_values.Goals as goal

pub loop-byte-preserved : goal.loop-byte-preserved
loop-byte-preserved c =
    let bytes = c.args.bytes.now in
    let i = c.loop-byte.byte-index in
    let plain : to_z w128 (of_z w128 c.from.result) ≡ pos (get_or bytes i 0) =
    grind (arith, ints, to_z-of_z, c.from.ensures) in
    byte_more c.loop-byte.items.items _ bytes i _ c.loop-byte.invariant c.loop-byte-test.true plain
    c.in_ok-push.ensures.items
