use Rattle.std.proofs.Common.{◌≡◌, ◌++◌, ℕ, flat_map, take}
use Rattle.cg_solve.specs.Tables.{row}
use Rattle.cg_vta.specs.Facts.{fact_at}
use Rattle.cg_vta.proofs.facts.put_facts.Given as goal

abbrev pub invariant-loop-node : goal.invariant-loop-node
invariant-loop-node l = (k : ℕ) → row l.facts k ≡ row l.fn.facts k ++ flat_map (fact_at l.nodes l.value k) (take l.node-index l.found)
