use Rattle.std.proofs.Common.{◌<◌, ◌+◌, ◌∙◌, sym, ap, subst, ℕ, List, All, length, map, Vec, Global, arith}
use Rattle.std.proofs.lemmas.List.{length-map}
use Rattle.go_graph.specs.Graph.{next}
use Rattle.go_graph.specs.Silence.{IsBelowMarks, below_one}
use Rattle.go_graph.proofs.MarkLaws.{targets_below}
use Rattle.go_graph.proofs.Silencing.{below_none, below_more}
use Rattle.go_graph.proofs.silence.below_of.Goals as goal

pub loop-node-init : goal.loop-node-init
loop-node-init c =
    let rows = map (λ (r : Vec ℕ Global). r.items) c.args.graph.now in
    let count = c.len.ensures ∙ c.args.components.now.order.ok.0 in
    below_none rows c.args.components.now.of.items (length c.args.components.now.order.items) c.args.flags.now c.in_ok-marks.marks.items (rw (sym count) c.in_ok-marks.ensures)

pub mark_below-requires-clause-targets : goal.mark_below-requires-clause-targets
mark_below-requires-clause-targets c =
    let rows = map (λ (r : Vec ℕ Global). r.items) c.args.graph.now in
    subst (λ (l : List ℕ). All (λ y. y < length l) (next rows c.loop-node.node)) (sym c.deref.ensures.value)
    (targets_below rows c.args.components.now.of.items c.args.components.now.order.items c.requires.graph c.requires.components c.loop-node.node)

pub loop-node-preserved : goal.loop-node-preserved
loop-node-preserved c =
    let rows = map (λ (r : Vec ℕ Global). r.items) c.args.graph.now in
    let of = c.args.components.now.of.items in
    let x = c.loop-node.node in
    let size = length-map c.args.graph.now (λ (r : Vec ℕ Global). r.items) in
    let low : x < length rows = (let less = c.loop-node-test.true in omega arith) in
    let made = c.mark_below.ensures ∙ ap (λ l. below_one rows l c.args.flags.now x c.loop-node.marks.items) c.deref.ensures.value in
    subst (λ l. IsBelowMarks rows of (length c.args.components.now.order.items) c.args.flags.now (x + 1) l) (sym made)
    (below_more rows of (length c.args.components.now.order.items) c.args.flags.now c.loop-node.marks.items x c.loop-node.invariant low (c.requires.components.within x low))
