use Rattle.std.proofs.Common.{◌≡◌, ℕ, ◌<◌, take}
use Rattle.ssa_typed.specs.Typed.{IsTypedAt, given_in}
use Rattle.ssa_typed.proofs.checking.first_ill_typed.Given as goal

abbrev pub invariant-loop-number : goal.invariant-loop-number
invariant-loop-number l = record {
  typed : (k i : ℕ) → k < l.number → IsTypedAt l.frame.code.now l.frame.function.now k i;
  given : l.given.keys ≡ given_in (take l.number l.frame.function.now.blocks);
}
