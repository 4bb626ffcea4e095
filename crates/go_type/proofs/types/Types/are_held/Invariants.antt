use Rattle.std.proofs.Common.{◌≡◌, true, take}
use Rattle.std.specs.List.{list_all}
use Rattle.go_type.specs.Conditions.{is_held}
use Rattle.go_type.proofs.types.Types.are_held.Given as goal

abbrev pub invariant-loop-id : goal.invariant-loop-id
invariant-loop-id l = list_all (is_held l.self) (take l.id-index l.ids) ≡ true
