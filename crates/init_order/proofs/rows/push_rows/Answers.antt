use Rattle.init_order.proofs.RowLaws.{one_more}
use Rattle.init_order.proofs.rows.push_rows.Goals as goal

pub loop-made-preserved : goal.loop-made-preserved
loop-made-preserved c =
    one_more c.args.rows.now.items c.loop-made.rows.items c.push.new.self.items c.new.result c.loop-made.made c.loop-made.invariant c.in_ok-push.ensures.items c.new.ensures.items
