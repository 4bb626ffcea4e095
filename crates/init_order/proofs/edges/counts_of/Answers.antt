use Rattle.std.proofs.Common.{◌≡◌, ◌<◌, ◌+◌, [], length, get_or, take, slice_index, sym, subst, arith}
use Rattle.std.proofs.Math.ListN.{set}
use Rattle.go_graph.proofs.MarkLaws.{index_read}
use Rattle.init_order.specs.Groups.{waits}
use Rattle.init_order.specs.declared.edges.Edge.{Edge}
use Rattle.init_order.proofs.EdgeLists.{edge_at, count_more, waits_bound, take_length}
use Rattle.init_order.proofs.edges.counts_of.Goals as goal

pub index_mut-requires : goal.index_mut-requires
index_mut-requires c =
    let bound = c.requires.within _ (edge_at c.args.edges.now c.loop-edge.edge-index (record { leaves = 0; enters = 0 }) c.loop-edge-test.true) in
    let less = bound.0 in
    let size = c.loop-edge.invariant.size in
    omega arith

pub overflow_add-index_mut : goal.overflow_add-index_mut
overflow_add-index_mut c =
    let e : Edge = get_or c.args.edges.now c.loop-edge.edge-index (record { leaves = 0; enters = 0 }) in
    let bound = c.requires.within e (edge_at c.args.edges.now c.loop-edge.edge-index (record { leaves = 0; enters = 0 }) c.loop-edge-test.true) in
    let is = c.loop-edge.invariant.so_far e.leaves bound.0 in
    let few = waits_bound (take c.loop-edge.edge-index c.args.edges.now) e.leaves in
    let short = take_length c.args.edges.now c.loop-edge.edge-index in
    let less = c.loop-edge-test.true in
    let room = c.requires.few in
    let size = c.loop-edge.invariant.size in
    let ok = c.loop-edge.counts.ok.0 in
    let low = bound.0 in
    let value = index_read c.loop-edge.counts.items e.leaves c.index_mut.result.now (omega arith) c.index_mut.ensures.value in
    omega arith

pub loop-edge-preserved : goal.loop-edge-preserved
loop-edge-preserved c =
    let d : Edge = record { leaves = 0; enters = 0 } in
    let e : Edge = get_or c.args.edges.now c.loop-edge.edge-index d in
    let bound = c.requires.within e (edge_at c.args.edges.now c.loop-edge.edge-index d c.loop-edge-test.true) in
    let low = bound.0 in
    let size = c.loop-edge.invariant.size in
    let ok = c.loop-edge.counts.ok.0 in
    let room : e.leaves < length c.loop-edge.counts.items = omega arith in
    record {
      size = c.loop-edge.invariant.size;
      so_far = λ g less. subst (λ v. slice_index (set c.loop-edge.counts.items e.leaves (v + 1)) g ≡ waits (take (c.loop-edge.edge-index + 1) c.args.edges.now) [] g + 1)
          (sym (index_read c.loop-edge.counts.items e.leaves c.index_mut.result.now room c.index_mut.ensures.value))
          (count_more c.args.edges.now c.loop-edge.edge-index d c.loop-edge.counts.items c.args.count c.loop-edge-test.true room c.loop-edge.invariant.so_far g less);
    }
