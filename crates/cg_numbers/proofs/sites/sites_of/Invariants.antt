use Rattle.cg_solve.specs.Lists.{each_below}
use Rattle.cg_numbers.specs.Numbered.{StandsFor}
use Rattle.cg_numbers.specs.Sites.{Collects, Among, met_of}
use Rattle.cg_numbers.proofs.sites.sites_of.Given as goal

abbrev pub invariant-loop-number : goal.invariant-loop-number
invariant-loop-number l = record {
  types : StandsFor l.program.types l.sites.numbers.likeness.types l.sites.numbers.likeness.bares;
  met : Collects (Among (each_below (met_of l.program) l.number)) l.sites;
}
