use Rattle.ssa_typed.specs.Typed.{IsTypedBelow}
use Rattle.ssa_typed.proofs.checking.type_code.Given as goal

abbrev pub invariant-loop-number : goal.invariant-loop-number
invariant-loop-number l = IsTypedBelow l.code l.number
