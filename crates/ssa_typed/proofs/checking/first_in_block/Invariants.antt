use Rattle.std.proofs.Common.{◌≡◌, ℕ, ◌<◌, ◌++◌, take}
use Rattle.ssa_ir.specs.Uses.{given_registers}
use Rattle.ssa_typed.specs.Typed.{IsTypedIn}
use Rattle.ssa_typed.proofs.checking.first_in_block.Given as goal

abbrev pub invariant-loop-index : goal.invariant-loop-index
invariant-loop-index l = record {
  typed : (k : ℕ) → k < l.index → IsTypedIn l.frame.code.now l.frame.function.now l.initial.given.keys l.instrs k;
  given : l.given.keys ≡ l.initial.given.keys ++ given_registers (take l.index l.instrs);
}
