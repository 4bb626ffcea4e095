use Rattle.std.proofs.Common.{◌^◌, ◌≤◌, ap, arith}
use Rattle.std.specs.Int.{w128, cast_unsigned}
use Rattle.go_type.proofs.Shifts.{far_left}
use Rattle.std.proofs.Math.Pow.{pow_mono}
use Rattle.go_type.proofs.constants.shift_left.Goals as goal

pub returns-then-count-gt127 : goal.returns-then-count-gt127
returns-then-count-gt127 c = far_left c.args.a c.args.count (λ e. c.if-a-eq0.false (ap (cast_unsigned w128) e)) c.if-count-gt127.true

pub pow-requires : goal.pow-requires
pow-requires c =
    let power : 2 ^ c.args.count ≤ 2 ^ 127 = pow_mono c.if-count-gt127.false in
    omega arith
