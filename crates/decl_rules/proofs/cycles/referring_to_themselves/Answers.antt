use Rattle.std.proofs.Common.{◌≡◌, ◌+◌, ◌∙◌, ◌&&◌, ◌||◌, ◌∷◌, [], Bool, List, ap, arith, length, length-append, slice_get}
use Rattle.go_graph.specs.Marks.{marked}
use Rattle.go_graph.proofs.MarkLaws.{marks_more}
use Rattle.decl_rules.specs.Cycles.{is_constant, is_marked_in}
use Rattle.decl_rules.proofs.Circles.{are_referring}
use Rattle.decl_rules.proofs.cycles.referring_to_themselves.Goals as goal

pub loop-node-preserved : goal.loop-node-preserved
loop-node-preserved c =
    let declared = c.args.declared.now in
    let cyclic = c.args.order.now.cyclic.items in
    let of = c.args.order.now.of.items in
    let lengths = c.in_ok-lengths.lengths.items in
    let n = c.loop-node.node in
    let old = c.loop-node.marks.items in
    let b = c.refers_to_itself.result in
    let pushed = c.in_ok-push.ensures.items in
    let found : b ≡ (marked cyclic n && (is_constant declared n || is_marked_in lengths (slice_get of n))) =
    c.refers_to_itself.ensures ∙ ap (λ (l : List Bool). marked cyclic n && (is_constant declared n || is_marked_in l (slice_get of n))) c.deref.ensures.value in
    record {
      size = ap length pushed ∙ length-append old (b ∷ []) ∙ ap (λ m. m + 1) c.loop-node.invariant.size;
      so_far = λ x less. ap (λ l. marked l x) pushed
          ∙ marks_more (λ y. marked cyclic y && (is_constant declared y || is_marked_in lengths (slice_get of y))) old n b c.loop-node.invariant.size c.loop-node.invariant.so_far found x less;
    }

pub returns : goal.returns
returns c = λ ordered.
    let order = c.args.order.now in
    let end : c.loop-node.node ≡ c.args.count = (let a = c.loop-node-test.false in let b = c.loop-node.auto.node-end in omega arith) in
    are_referring c.args.nodes.now c.args.declared.now order.of.items order.nodes.items order.cyclic.items c.in_ok-lengths.lengths.items ordered c.in_ok-lengths.ensures c.args.count
    c.loop-node.marks.items (c.loop-node.invariant.size ∙ end) (λ x less. c.loop-node.invariant.so_far x (omega arith))
