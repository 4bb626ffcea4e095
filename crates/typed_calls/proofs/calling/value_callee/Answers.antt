use Rattle.std.proofs.Common.{refl}
use Rattle.typed_calls.proofs.calling.value_callee.Goals as goal

pub returns : goal.returns
returns c = (c.in_ok-expr.expr, (c.in_ok-expr.ensures, refl))
