use Rattle.std.proofs.Common.{◌<◌, ◌+◌, length, sym, ap, subst, arith}
use Rattle.std.proofs.Math.ListN.{get_or}
use Rattle.import_graph.proofs.Walked.{Walked, walked_start, walked_next, walked_all}
use Rattle.import_graph.proofs.cycles.nodes_from.Goals as goal

pub places-init : goal.places-init
places-init c = walked_start c.args.edges.now c.args.start c.new-met.result.keys c.insert.new.self.keys c.new-met.ensures.empty c.in_ok-insert.ensures.keys

pub places-smaller : goal.places-smaller
places-smaller c = omega arith

pub places-preserved : goal.places-preserved
places-preserved c =
    let below : c.places.place < length c.places.met.keys = omega arith in
    subst (Walked c.args.edges.now c.args.start (c.places.place + 1)) (sym c.in_ok-add_ends.ensures)
    (walked_next c.args.edges.now c.edges_from.result.now c.args.start c.places.place _ c.places.met.keys c.places.invariant below (ap (λ l. get_or l c.places.place 0) (sym c.as_slice.ensures.keys)) c.edges_from.ensures)

pub returns : goal.returns
returns c = walked_all c.args.edges.now c.args.start c.places.place c.places.met.keys c.places.invariant (omega arith)
