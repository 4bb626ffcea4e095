use Rattle.cg_nodes.specs.contracts.nodes.NodeEq.TheImpl.Laws as node_laws
use Rattle.cg_nodes.specs.contracts.nodes.ValueEq.TheImpl.Laws as value_laws
use Rattle.cg_nodes.specs.contracts.nodes.GroupEq.TheImpl.Laws as group_laws
use Rattle.cg_nodes.specs.contracts.nodes.NodePartialEq.TheImpl as same_node
use Rattle.cg_nodes.specs.contracts.nodes.ValuePartialEq.TheImpl as same_value
use Rattle.cg_nodes.specs.contracts.nodes.GroupPartialEq.TheImpl as same_group
use Rattle.cg_numbers.proofs.Lists.{once}
use Rattle.cg_numbers.proofs.numbers.Numbers.laws.Goals as goal

pub returns-clause-nodes : goal.returns-clause-nodes
returns-clause-nodes c = once same_node.ghosts.eq node_laws.laws-law.refl c.args.self.now.nodes.keys c.len-nodes.ensures.unique

pub returns-clause-values : goal.returns-clause-values
returns-clause-values c = once same_value.ghosts.eq value_laws.laws-law.refl c.args.self.now.values.keys c.len-values.ensures.unique

pub returns-clause-groups : goal.returns-clause-groups
returns-clause-groups c = once same_group.ghosts.eq group_laws.laws-law.refl c.args.self.now.groups.keys c.len-groups.ensures.unique
