use Rattle.std.proofs.Common.{ap}
use Rattle.go_value.specs.Values as vals
use Rattle.go_value.specs.Values.{value_of}
use Rattle.go_maps.proofs.Leaves.{leaf_is, pointer_is_same}
use Rattle.go_maps.proofs.equality.same_leaf.Goals as goal

pub returns-in-Pointer-Pointer : goal.returns-in-Pointer-Pointer
returns-in-Pointer-Pointer c =
    let x = c.in-Pointer-Pointer.x in
    let y = c.in-Pointer-Pointer.y in
    leaf_is c.args.a.now c.args.b.now (vals.pointer x) (vals.pointer y) _ (ap value_of c.in-Pointer-Pointer.is-0) (ap value_of c.in-Pointer-Pointer.is-1) (pointer_is_same c.is_same.result x y c.is_same.ensures)
