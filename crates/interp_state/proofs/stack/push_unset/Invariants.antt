use Rattle.std.proofs.Common.{◌≡◌, ◌++◌, replicate, None, vec_capacity}
use Rattle.interp_state.proofs.stack.push_unset.Given as goal

abbrev pub invariant-loop : goal.invariant-loop
invariant-loop l =
    (l.slots.items ≡ l.initial.slots.items ++ replicate l.counter None)
    × (vec_capacity l.slots ≡ vec_capacity l.initial.slots)
