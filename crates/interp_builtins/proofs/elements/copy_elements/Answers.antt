use Rattle.std.proofs.Common.{◌≡◌, pos, arith, to_z, of_z}
use Rattle.std.proofs.lemmas.Int.{to_z-of_z, ints}
use Rattle.std.specs.Int.{w128}
use Rattle.go_store.specs.Slices.{copy_count}
use Rattle.interp_builtins.proofs.Slices.{int_done}
use Rattle.interp_builtins.proofs.elements.copy_elements.Goals as goal

pub returns-in-Ok : goal.returns-in-Ok
returns-in-Ok c =
    let plain : to_z w128 (of_z w128 c.from.result) ≡ pos (copy_count c.args.to.now c.args.from.now) =
    grind (arith, ints, to_z-of_z, c.from.ensures, c.in-Ok.ensures.count) in
    int_done _ (copy_count c.args.to.now c.args.from.now) _ _ plain c.in-Ok.ensures.ok
