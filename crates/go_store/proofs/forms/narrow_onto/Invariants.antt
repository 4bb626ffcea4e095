use Rattle.std.proofs.Common.{◌≡◌, ◌++◌, map, pos, drop}
use Rattle.go_store.proofs.forms.narrow_onto.Given as goal

abbrev pub invariant-loop-number : goal.invariant-loop-number
invariant-loop-number l = map pos l.bytes.items ++ drop l.number-index l.ints ≡ map pos l.initial.bytes.items ++ l.ints
