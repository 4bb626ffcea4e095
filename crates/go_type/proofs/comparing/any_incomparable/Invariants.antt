use Rattle.std.proofs.Common.{◌≡◌, false, take}
use Rattle.std.specs.List.{list_any}
use Rattle.go_type.specs.Comparable.{incomparable_to}
use Rattle.go_type.proofs.comparing.any_incomparable.Given as goal

abbrev pub invariant-loop-id : goal.invariant-loop-id
invariant-loop-id l = list_any (incomparable_to 1 l.types) (take l.id-index l.ids) ≡ false
