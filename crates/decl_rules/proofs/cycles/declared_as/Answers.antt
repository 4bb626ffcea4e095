use Rattle.std.proofs.Common.{◌∙◌, ◌++◌, None, ap}
use Rattle.decl_nodes.specs.declared.bases.Base.TheVariants.{Unknown}
use Rattle.decl_rules.specs.Cycles.{declared_edges, edge_to}
use Rattle.decl_rules.proofs.Circles.{declared_more}
use Rattle.decl_rules.proofs.cycles.declared_as.Goals as goal

pub loop-node-preserved : goal.loop-node-preserved
loop-node-preserved c =
    let facts = c.args.facts.now in
    let old = c.loop-node.edges.items in
    declared_more facts c.loop-node.node (record { base = Unknown; of = None; canon = None; target = None }) old c.add_to.new.edges.items (declared_edges facts 0 facts) c.loop-node-test.true
    (c.in_ok-add_to.ensures ∙ ap (λ to. old ++ edge_to c.loop-node.node to) c.canon.ensures) c.loop-node.invariant
