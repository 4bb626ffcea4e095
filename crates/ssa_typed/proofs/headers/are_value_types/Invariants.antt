use Rattle.std.proofs.Common.{◌≡◌, true, take}
use Rattle.ssa_typed.specs.Typed.{are_value_types}
use Rattle.ssa_typed.proofs.headers.are_value_types.Given as goal

abbrev pub invariant-loop-id : goal.invariant-loop-id
invariant-loop-id l = are_value_types l.types (take l.id-index l.ids) ≡ true
