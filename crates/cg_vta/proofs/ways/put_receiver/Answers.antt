use Rattle.std.proofs.Common.{◌∙◌, ◌++◌, Option, ap}
use Rattle.cg_nodes.specs.declared.nodes.Node.{Node}
use Rattle.cg_vta.specs.Passing.{receiver_by}
use Rattle.cg_vta.proofs.ways.put_receiver.Goals as goal

pub returns : goal.returns
returns c = c.in_ok-put_from.ensures ∙ ap (λ (o : Option Node). c.args.ways.now.items ++ receiver_by c.args.candidate.goal o) c.node_at-from.ensures
