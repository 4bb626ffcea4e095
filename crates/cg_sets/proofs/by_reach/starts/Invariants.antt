use Rattle.std.proofs.Common.{◌≡◌, ◌++◌, ◌∷◌, []}
use Rattle.cg_sets.specs.Reaching.{fact_number, main_start, start_at}
use Rattle.cg_sets.specs.declared.by_reach.FactNumber.TheVariants as fact
use Rattle.cg_solve.specs.Lists.{each_below}
use Rattle.cg_sets.proofs.by_reach.starts.Given as goal

abbrev pub invariant-loop-number : goal.invariant-loop-number
invariant-loop-number l = l.starts.items ≡ (fact_number (fact.Known l.fault) ∷ [] ++ main_start l.program.main) ++ each_below (start_at l.program) l.number
