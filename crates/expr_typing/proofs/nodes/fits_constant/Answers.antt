use Rattle.std.proofs.Common.{◌&&◌}
use Rattle.expr_typing.proofs.nodes.fits_constant.Goals as goal

pub returns : goal.returns
returns c = λ tests. λ i. c.is_typed_basic.ensures tests i && c.represent.ensures i
