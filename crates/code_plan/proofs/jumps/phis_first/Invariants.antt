use Rattle.std.proofs.Common.{◌≡◌, ◌+◌, drop}
use Rattle.ssa_mean.specs.Unwinding as unwinding
use Rattle.code_plan.proofs.jumps.phis_first.Given as goal

abbrev pub invariant-loop-count : goal.invariant-loop-count
invariant-loop-count l = l.count + unwinding.phis_first (drop l.count l.instrs) ≡ unwinding.phis_first l.instrs
