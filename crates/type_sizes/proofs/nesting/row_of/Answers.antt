use Rattle.type_sizes.proofs.PartGraphs.{row_more}
use Rattle.type_sizes.proofs.nesting.row_of.Goals as goal

pub loop-part-preserved : goal.loop-part-preserved
loop-part-preserved c =
    let stored = c.in_ok-place.ensures.stored in
    row_more c.args.parts.now c.loop-part.part-index c.in_ok-place.place _ stored.0 c.args.reached.now.keys c.loop-part.reached.keys c.insert_full.new.self.keys c.loop-part.row.items c.push.new.self.items c.loop-part-test.true c.loop-part.invariant
    c.in_ok-place.ensures.keys stored.1 stored.2 c.in_ok-push.ensures.items
