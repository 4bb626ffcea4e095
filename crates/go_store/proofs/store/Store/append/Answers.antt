use Rattle.std.proofs.Common.{◌<◌, ◌≤◌, ◌+◌, arith, length}
use Rattle.go_store.proofs.Appended.{grow_fault, most_is_less, far}
use Rattle.go_store.proofs.store.Store.append.Goals as goal

pub returns-in_default-checked_add-clause-fault : goal.returns-in_default-checked_add-clause-fault
returns-in_default-checked_add-clause-fault c =
    let slice = c.args.slice.now in
    let count = length c.args.items.now in
    let big : 18446744073709551616 ≤ slice.len + count = far (slice.len + count) 18446744073709551616 c.in_default-checked_add.ensures in
    let some : 0 < count = c.in-Some.ensures.item.3.0 in
    let below : slice.cap < 18446744073709551616 = omega (arith, c.capacity-room.ensures) in
    grow_fault c.args.leaves slice count some (omega arith) (omega (arith, most_is_less c.args.leaves))
