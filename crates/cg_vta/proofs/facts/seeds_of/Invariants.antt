use Rattle.std.proofs.Common.{◌≡◌, ℕ, flat_map, take}
use Rattle.cg_solve.specs.Tables.{row}
use Rattle.cg_vta.specs.Facts.{seed_at}
use Rattle.cg_vta.proofs.facts.seeds_of.Given as goal

abbrev pub invariant-loop-seed : goal.invariant-loop-seed
invariant-loop-seed l = (k : ℕ) → row l.table k ≡ flat_map (seed_at k) (take l.seed-index l.seeds)
