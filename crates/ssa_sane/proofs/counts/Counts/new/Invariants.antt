use Rattle.std.specs.BTreeMap.{values}
use Rattle.ssa_sane.specs.Counts.{AreCountsBut}
use Rattle.ssa_sane.proofs.counts.Counts.new.Given as goal

abbrev pub invariant-loop-home : goal.invariant-loop-home
invariant-loop-home l = AreCountsBut l.homes.lacking.items (values l.homes.map) l.home-iterator l.blocks l.counts
