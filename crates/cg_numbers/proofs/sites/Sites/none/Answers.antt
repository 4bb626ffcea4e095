use Rattle.cg_numbers.proofs.Collecting.{collects_none}
use Rattle.cg_numbers.proofs.sites.Sites.none.Goals as goal

pub returns-clause-met : goal.returns-clause-met
returns-clause-met c = collects_none _ c.new-sites.ensures.items c.new-seeds.ensures.items c.new-flows.ensures.items c.in_ok-numbers.ensures.values
