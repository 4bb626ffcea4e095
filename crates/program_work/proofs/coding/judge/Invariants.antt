use Rattle.std.proofs.Common.{take}
use Rattle.program_work.specs.Working.{AreSane}
use Rattle.program_work.proofs.coding.judge.Given as goal

-- the functions before are sane
abbrev pub invariant-loop-function : goal.invariant-loop-function
invariant-loop-function l = AreSane (take l.function-index l.functions)
