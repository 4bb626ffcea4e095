use Rattle.std.proofs.Common.{◌≡◌, ◌<◌, ◌+◌, ◌∙◌, sym, ap, subst, ℕ, List, length, map, slice_get, slice_index, slice_index_or, All, Some, Vec, Global, arith}
use Rattle.std.proofs.lemmas.List.{length-map}
use Rattle.std.proofs.lemmas.Option.{slice_get-get_or}
use Rattle.go_graph.specs.Graph.{next}
use Rattle.go_graph.specs.Marks.{flagged}
use Rattle.go_graph.proofs.Lists.{among_at}
use Rattle.go_graph.proofs.MarkLaws.{AreSoFar, so_far_none, so_far_more, so_far_all, targets_below}
use Rattle.go_graph.proofs.reach.reaching.Goals as goal

-- the node that an element of the order is
at_order : (items order : List ℕ) (i : ℕ) → items ≡ order → i < length items → slice_get order i ≡ Some (slice_index_or items i 0)
at_order items order i e less = subst (λ l. slice_get l i ≡ Some (slice_index_or items i 0)) e (slice_get-get_or items i 0 less)

pub loop-node-init : goal.loop-node-init
loop-node-init c =
    let rows = map (λ (r : Vec ℕ Global). r.items) c.args.graph.now in
    let size = c.args.components.now.order.ok.0 in
    let count = c.len.ensures in
    let made = c.in_ok-flags.ensures in
    so_far_none rows c.args.components.now.of.items c.args.components.now.order.items c.requires.graph c.requires.components c.args.marks.now c.in_ok-flags.flags.items (rw (sym (count ∙ size)) made)

pub loop-node-preserved : goal.loop-node-preserved
loop-node-preserved c =
    let rows = map (λ (r : Vec ℕ Global). r.items) c.args.graph.now in
    let of = c.args.components.now.of.items in
    let order = c.args.components.now.order.items in
    let x = slice_index_or c.deref-node-items.result.now c.loop-node.node-index 0 in
    let at = at_order c.deref-node-items.result.now order c.loop-node.node-index c.deref-node-items.ensures.value c.loop-node-test.true in
    let made = c.reach_one.ensures ∙ ap (λ l. flagged rows l c.args.marks.now x c.loop-node.flags.items) c.deref.ensures.value in
    subst (λ l. AreSoFar rows of order c.args.marks.now l (c.loop-node.node-index + 1)) (sym made)
    (so_far_more rows of order c.requires.graph c.requires.components c.args.marks.now c.loop-node.flags.items c.loop-node.node-index x c.loop-node.invariant at)

pub returns : goal.returns
returns c =
    let rows = map (λ (r : Vec ℕ Global). r.items) c.args.graph.now in
    let size = ap length c.deref-node-items.ensures.value in
    let end = c.loop-node-test.false in
    so_far_all rows c.args.components.now.of.items c.args.components.now.order.items c.requires.graph c.requires.components c.args.marks.now c.loop-node.flags.items c.loop-node.node-index (omega arith) c.loop-node.invariant

pub reach_one-requires-clause-node : goal.reach_one-requires-clause-node
reach_one-requires-clause-node c =
    let order = c.args.components.now.order.items in
    let at = at_order c.deref-node-items.result.now order c.loop-node.node-index c.deref-node-items.ensures.value c.loop-node-test.true in
    let size = length-map c.args.graph.now (λ (r : Vec ℕ Global). r.items) in
    let less = c.requires.components.nodes _ (among_at order c.loop-node.node-index _ at) in
    omega arith

pub reach_one-requires-clause-targets : goal.reach_one-requires-clause-targets
reach_one-requires-clause-targets c =
    let rows = map (λ (r : Vec ℕ Global). r.items) c.args.graph.now in
    let x = slice_index_or c.deref-node-items.result.now c.loop-node.node-index 0 in
    subst (λ (l : List ℕ). All (λ y. y < length l) (next rows x)) (sym c.deref.ensures.value)
    (targets_below rows c.args.components.now.of.items c.args.components.now.order.items c.requires.graph c.requires.components x)

pub reach_one-requires-clause-flags : goal.reach_one-requires-clause-flags
reach_one-requires-clause-flags c =
    λ x less. (
    let e = c.deref.ensures.value in
    let low : x < length c.args.components.now.of.items = subst (λ (l : List ℕ). x < length l) e less in
    let size = c.requires.components.sizes in
    let under = c.requires.components.within x (omega arith) in
    let flags = c.loop-node.invariant.size in
    let count = c.loop-node.flags.ok.0 in
    let is : slice_index c.deref.result.now x ≡ slice_index c.args.components.now.of.items x = ap (λ l. slice_index l x) e in
    omega arith
    )
