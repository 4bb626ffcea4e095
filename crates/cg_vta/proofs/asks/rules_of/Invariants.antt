use Rattle.std.proofs.Common.{◌-◌, ◌^◌, ℕ, List}
use Rattle.cg_sets.specs.declared.candidates.Candidate.{Candidate}
use Rattle.cg_solve.specs.Tables.{row}
use Rattle.cg_vta.specs.Asks.{AreGoals}
use Rattle.cg_vta.proofs.Gathering.{AnsweredBelow}
use Rattle.cg_vta.proofs.asks.rules_of.Given as goal

abbrev pub invariant-turns : goal.invariant-turns
invariant-turns l = (rows : ℕ → List Candidate) → AreGoals rows l.goals → AnsweredBelow (row l.facts) rows l.nothing l.number l.fn.asks.list.keys l.asks.list.keys l.rules.items

abbrev pub decreases-turns : goal.decreases-turns
decreases-turns l = 2 ^ 64 - l.number
