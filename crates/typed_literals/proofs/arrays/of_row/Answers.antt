use Rattle.typed_literals.proofs.Rows.{row_made, row_nothing}
use Rattle.typed_literals.proofs.arrays.of_row.Goals as goal

pub returns-in-Some : goal.returns-in-Some
returns-in-Some c =
    row_made c.args.ground.now c.each_item.new.ground c.finished.new.ground c.args.literal c.args.row.0 c.args.row.1 c.args.elements.items
    c.in_ok-items.field-0 c.in-Some.items c.in-Some.len c.finished.result c.in_ok-items.ensures c.in-Some.is c.finished.ensures

pub returns-in-None : goal.returns-in-None
returns-in-None c =
    row_nothing c.args.ground.now c.each_item.new.ground c.args.literal c.args.row.0 c.args.row.1 c.args.elements.items
    c.in_ok-items.field-0 c.in_ok-items.ensures c.in-None.is
