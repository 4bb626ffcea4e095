use Rattle.std.proofs.Common.{◌≡◌, map, take}
use Rattle.go_value.proofs.ZeroOf.{zeroed_field}
use Rattle.go_value.proofs.zeros.+zero_like.Given as goal

abbrev pub invariant-zeros_of-loop-part : goal.invariant-zeros_of-loop-part
invariant-zeros_of-loop-part l = l.zeros.items ≡ map zeroed_field (take l.part-index l.parts)
