use Rattle.cg_solve.specs.Tables.{row}
use Rattle.cg_vta.proofs.Following.{chosen_there}
use Rattle.cg_vta.proofs.facts.chosen_nodes.Goals as goal

pub returns : goal.returns
returns c = chosen_there c.args.sites.now (row c.args.all.now.rows) c.args.nothing c.new-nodes.result.items c.push.new.self.items _ _ c.in_ok-push.ensures.items c.in_ok-put_sites.ensures c.in_ok-put_operands.ensures.kept c.in_ok-put_operands.ensures.whole
