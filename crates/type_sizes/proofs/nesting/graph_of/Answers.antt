use Rattle.type_sizes.proofs.Done.{done}
use Rattle.type_sizes.proofs.nesting.graph_of.Goals as goal

pub returns : goal.returns
returns c = done c.and.result c.add_rows-done.result _ _ c.and.ensures c.add_rows-done.ensures
