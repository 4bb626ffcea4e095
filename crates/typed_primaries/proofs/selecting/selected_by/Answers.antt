use Rattle.typed_primaries.proofs.Selects.{path_followed}
use Rattle.typed_primaries.proofs.selecting.selected_by.Goals as goal

pub returns : goal.returns
returns c =
    path_followed c.args.ground.now c.selected_of.new.ground c.args.selected c.args.expr c.in_ok-expr.field-0 c.args.selection c.as_slice.result.now
    c.selected_of.result c.as_slice.ensures c.in_ok-expr.ensures c.selected_of.ensures
