use Rattle.std.proofs.Common.{◌≡◌, ◌++◌, take}
use Rattle.ssa_ir.specs.Uses.{registers_in_cases}
use Rattle.ssa_sane.proofs.uses.push_cases.Given as goal

abbrev pub invariant-loop-case : goal.invariant-loop-case
invariant-loop-case l = l.used.items ≡ l.initial.used.items ++ registers_in_cases (take l.case-index l.cases)
