use Rattle.typed_literals.proofs.Rows.{indexed_by, indexed_unsound}
use Rattle.typed_literals.proofs.arrays.indexed_literal.Goals as goal

pub returns-in-Some : goal.returns-in-Some
returns-in-Some c =
    indexed_by c.args.ground.now c.of_row.new.ground c.args.literal c.row_literal.result c.in-Some.literal c.in-Some.row c.args.elements.items
    c.of_row.result c.row_literal.ensures c.in-Some.is c.of_row.ensures

pub returns-in-None : goal.returns-in-None
returns-in-None c =
    indexed_unsound c.args.ground.now c.ask_values.new.ground c.args.literal c.row_literal.result c.args.elements.items
    c.row_literal.ensures c.in-None.is c.ask_values.ensures
