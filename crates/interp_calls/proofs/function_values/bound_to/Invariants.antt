use Rattle.std.proofs.Common.{◌≡◌, take}
use Rattle.interp_calls.proofs.function_values.bound_to.Given as goal

abbrev pub invariant-loop-address : goal.invariant-loop-address
invariant-loop-address l = l.copies.items ≡ take l.address-index l.captured
