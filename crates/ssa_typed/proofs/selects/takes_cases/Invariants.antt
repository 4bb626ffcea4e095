use Rattle.std.proofs.Common.{◌≡◌, ◌≤◌, drop, length}
use Rattle.ssa_typed.specs.Forms.{takes_cases}
use Rattle.ssa_typed.proofs.selects.takes_cases.Given as goal

abbrev pub invariant-loop-index : goal.invariant-loop-index
invariant-loop-index l = record {
  within : l.place ≤ length l.received;
  rest : takes_cases l.frame.code.now l.frame.function.now l.cases l.received ≡ takes_cases l.frame.code.now l.frame.function.now (drop l.index l.cases) (drop l.place l.received);
}
