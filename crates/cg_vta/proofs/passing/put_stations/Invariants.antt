use Rattle.std.proofs.Common.{◌≡◌, ◌-◌, ◌^◌}
use Rattle.cg_numbers.specs.Numbered.{Extends}
use Rattle.cg_solve.specs.Tables.{row}
use Rattle.cg_vta.proofs.Streams.{StationsBelow}
use Rattle.cg_vta.proofs.passing.put_stations.Given as goal

abbrev pub invariant-stations : goal.invariant-stations
invariant-stations l = record {
  extends : Extends l.fn.numbers l.numbers;
  same : l.numbers ≡ record l.fn.numbers { nodes = l.numbers.nodes };
  puts : StationsBelow l.numbers (row l.all.rows) l.called l.number l.fn.rules.items l.rules.items;
}

abbrev pub decreases-stations : goal.decreases-stations
decreases-stations l = 2 ^ 64 - l.number
