use Rattle.std.proofs.Common.{ℕ, List, take}
use Rattle.cg_sets.specs.declared.candidates.Candidate.{Candidate}
use Rattle.cg_vta.specs.Asks.{AreGoals}
use Rattle.cg_vta.proofs.Standings.{FoundIn}
use Rattle.cg_vta.proofs.asks.goals_of.Given as goal

abbrev pub invariant-loop-value : goal.invariant-loop-value
invariant-loop-value l = (rows : ℕ → List Candidate) → AreGoals rows l.goals → FoundIn rows l.ask.group (take l.value-index l.value-items) l.found.items
