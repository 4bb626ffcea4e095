use Rattle.std.proofs.Common.{◌∙◌, ◌++◌, ◌∷◌, [], List, ℕ, ap}
use Rattle.decl_nodes.specs.declared.nodes.Node.{Node}
use Rattle.decl_nodes.proofs.Rows.{rows_end, rows_of}
use Rattle.decl_rules.specs.Cycles.{held, holds}
use Rattle.decl_rules.proofs.Loops.{one_more}
use Rattle.decl_rules.proofs.cycles.holding.Goals as goal

pub loop-node-preserved : goal.loop-node-preserved
loop-node-preserved c =
    let list = c.as_slice-node-items.result.now in
    let old = c.loop-node.graph.items in
    let row = c.in_ok-held.field-0 in
    one_more (λ (n : Node). held n.kind) list c.loop-node.node-index c.node-item.result (rows_of old) (rows_of c.push.new.self.items) (holds list) c.loop-node-test.true c.node-item.is
    (ap rows_of c.in_ok-push.ensures.items ∙ rows_end old row ∙ ap (λ (l : List ℕ). rows_of old ++ l ∷ []) c.in_ok-held.ensures) c.loop-node.invariant
