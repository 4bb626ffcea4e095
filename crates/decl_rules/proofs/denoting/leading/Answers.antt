use Rattle.std.proofs.Common.{◌≡◌, ◌+◌, ◌∙◌, ◌∷◌, [], ℕ, List, Vec, Global, ap, arith, length, length-append}
use Rattle.std.proofs.lemmas.List.{length-map}
use Rattle.go_graph.specs.Graph.{next}
use Rattle.decl_nodes.specs.declared.nodes.Node.{Node}
use Rattle.decl_nodes.proofs.Rows.{rows_end, rows_of}
use Rattle.decl_rules.specs.Denoting.{step_at, targets_of}
use Rattle.decl_rules.proofs.Following.{all_rows, next_more, step_is}
use Rattle.decl_rules.proofs.denoting.leading.Goals as goal

pub loop-number-preserved : goal.loop-number-preserved
loop-number-preserved c =
    let list = c.args.nodes.now.list in
    let through = c.args.through in
    let old = c.loop-number.graph.items in
    let n = c.loop-number.number in
    let row = c.in_ok-row_of.field-0 in
    let pushed = c.in_ok-push.ensures.items in
    let listed = c.as_slice-node-items.ensures in
    let is : row.items ≡ targets_of (step_at list through n) =
    c.in_ok-row_of.ensures ∙ ap targets_of (c.step.ensures ∙ step_is c.as_slice-node-items.result.now through n c.node-item.result c.loop-number-test.true c.node-item.is)
    ∙ ap (λ (l : List Node). targets_of (step_at l through n)) listed in
    let size : length (rows_of old) ≡ n = length-map old (λ (r : Vec ℕ Global). r.items) ∙ c.loop-number.invariant.size in
    record {
      size = ap length pushed ∙ length-append old (row ∷ []) ∙ ap (λ m. m + 1) c.loop-number.invariant.size;
      rows = λ x less. ap (λ l. next l x) (ap rows_of pushed ∙ rows_end old row) ∙ next_more (λ y. targets_of (step_at list through y)) (rows_of old) n row.items size c.loop-number.invariant.rows is x less;
    }

pub returns-clause-rows : goal.returns-clause-rows
returns-clause-rows c =
    let list = c.args.nodes.now.list in
    let graph = c.loop-number.graph.items in
    let listed = ap length c.as_slice-node-items.ensures in
    let end : c.loop-number.number ≡ length list = (let a = c.loop-number-test.false in let b = c.loop-number.auto.number-end in omega arith) in
    let size : length (rows_of graph) ≡ length list = length-map graph (λ (r : Vec ℕ Global). r.items) ∙ c.loop-number.invariant.size ∙ end in
    all_rows list c.args.through (rows_of graph) size (λ x less. c.loop-number.invariant.rows x (omega arith))
