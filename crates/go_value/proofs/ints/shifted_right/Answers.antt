use Rattle.std.proofs.Common.{◌≡◌, ◌^◌, ◌∙◌}
use Rattle.std.specs.Int.{w128, int_shr}
use Rattle.std.specs.Int.RustNames.{FitsSigned}
use Rattle.std.proofs.lemmas.Int.{to_z-of_z}
use lib.Signed.{mag_shr}
use Rattle.std.proofs.Math.Nat.{lt_of_le_of_lt}
use Rattle.go_value.proofs.Shifts.{far_right}
use Rattle.go_value.proofs.ints.shifted_right.Goals as goal

pub returns-else-count-lt127 : goal.returns-else-count-lt127
returns-else-count-lt127 c =
    let same : int_shr c.args.a 127 ≡ int_shr c.args.a c.args.count = far_right c.args.a c.args.count c.ranges.a c.if-count-lt127.false in
    let still : FitsSigned w128 (int_shr c.args.a 127) = record { sfits = lt_of_le_of_lt (mag_shr c.args.a (2 ^ 127)) c.ranges.a.sfits } in
    rw (to_z-of_z w128 c.args.a c.ranges.a) (to_z-of_z w128 (int_shr c.args.a 127) still ∙ same)
