use Rattle.std.proofs.Common.{◌≡◌, take}
use Rattle.cg_numbers.specs.Numbered.{Extends}
use Rattle.cg_vta.specs.Passing.{PutsWays}
use Rattle.cg_vta.proofs.passing.put_ways.Given as goal

abbrev pub invariant-loop-way : goal.invariant-loop-way
invariant-loop-way l = record {
  extends : Extends l.fn.numbers l.numbers;
  same : l.numbers ≡ record l.fn.numbers { nodes = l.numbers.nodes };
  puts : PutsWays l.numbers (take l.way-index l.ways) l.fn.rules.items l.rules.items;
}
