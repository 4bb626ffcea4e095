use Rattle.std.proofs.Common.{◌≡◌, ◌<◌, ◌+◌, ◌∙◌, sym, ap, subst, ℕ, List, ◌∷◌, [], length, length-append, map, slice_index, All, Vec, Global, arith}
use Rattle.std.proofs.lemmas.List.{length-map}
use Rattle.go_graph.specs.Graph.{next}
use Rattle.go_graph.specs.Marks.{marked, has_component}
use Rattle.go_graph.proofs.Ends.{row_read}
use Rattle.go_graph.proofs.MarkLaws.{marks_more, on_marks, targets_below, index_read}
use Rattle.go_graph.proofs.reach.on_themselves.Goals as goal

pub has_component-requires : goal.has_component-requires
has_component-requires c =
    let rows = map (λ (r : Vec ℕ Global). r.items) c.args.graph.now in
    let row = c.deref.ensures.value ∙ row_read c.args.graph.now c.loop-node.node c.index-graph-node.result c.loop-node-test.true c.index-graph-node.is in
    let below = targets_below rows c.args.components.now.of.items c.args.components.now.order.items c.requires.graph c.requires.components c.loop-node.node in
    subst (λ (xs : List ℕ). All (λ y. y < length c.deref-in-loop-node.result.now) xs) (sym row) (subst (λ (of : List ℕ). All (λ y. y < length of) (next rows c.loop-node.node)) (sym c.deref-in-loop-node.ensures.value) below)

pub loop-node-preserved : goal.loop-node-preserved
loop-node-preserved c =
    let rows = map (λ (r : Vec ℕ Global). r.items) c.args.graph.now in
    let of = c.args.components.now.of.items in
    let row = c.deref.ensures.value ∙ row_read c.args.graph.now c.loop-node.node c.index-graph-node.result c.loop-node-test.true c.index-graph-node.is in
    let size : length of ≡ length c.args.graph.now = c.requires.components.sizes ∙ length-map c.args.graph.now (λ (r : Vec ℕ Global). r.items) in
    let component = index_read of c.loop-node.node c.index.result.now (let less = c.loop-node-test.true in omega arith) c.index.ensures in
    let found : c.has_component.result ≡ has_component of (slice_index of c.loop-node.node) (next rows c.loop-node.node) =
    c.has_component.ensures ∙ ap (λ l. has_component l c.index.result.now c.deref.result.now) c.deref-in-loop-node.ensures.value ∙ ap (λ g. has_component of g c.deref.result.now) component ∙ ap (has_component of (slice_index of c.loop-node.node)) row in
    let pushed = c.in_ok-push.ensures.items in
    record {
      size = ap length pushed ∙ length-append c.loop-node.marks.items (c.has_component.result ∷ []) ∙ ap (λ n. n + 1) c.loop-node.invariant.size;
      so_far = λ x less. ap (λ l. marked l x) pushed ∙ marks_more (λ x. has_component of (slice_index of x) (next rows x)) c.loop-node.marks.items c.loop-node.node c.has_component.result c.loop-node.invariant.size c.loop-node.invariant.so_far found x less;
    }

pub returns : goal.returns
returns c =
    let rows = map (λ (r : Vec ℕ Global). r.items) c.args.graph.now in
    let end : c.loop-node.node ≡ length c.args.graph.now = (let a = c.loop-node-test.false in let b = c.loop-node.auto.node-end in omega arith) in
    let size = length-map c.args.graph.now (λ (r : Vec ℕ Global). r.items) in
    on_marks rows c.args.components.now.of.items c.args.components.now.order.items c.requires.graph c.requires.components c.loop-node.marks.items (length c.args.graph.now) (sym size) (c.loop-node.invariant.size ∙ end)
    (λ x less. c.loop-node.invariant.so_far x (omega arith))
