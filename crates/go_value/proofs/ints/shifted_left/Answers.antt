use Rattle.std.proofs.Common.{arith}
use Rattle.go_value.proofs.Shifts.{far_left}
use Rattle.go_value.proofs.ints.shifted_left.Goals as goal

pub returns-else-count-width : goal.returns-else-count-width
returns-else-count-width c = far_left c.args.kind c.args.a c.args.count (omega (arith, c.width.ensures.same, c.if-count-width.false))
