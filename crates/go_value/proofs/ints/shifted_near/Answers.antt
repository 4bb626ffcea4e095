use Rattle.std.proofs.Common.{rules, ◌≡◌, ◌∙◌, ◌%◌, ◌^◌, ap, arith, pos, ◌*ℤ◌}
use Rattle.std.specs.Int.RustNames.{FitsSigned}
use Rattle.std.specs.Int.{w128, int_shl}
use Rattle.std.proofs.Math.Nat.{mod-eq_of_lt}
use Rattle.std.proofs.lemmas.Int.{to_z-of_z}
use Rattle.go_value.specs.Ints.{wrapped}
use Rattle.go_value.proofs.Shifts.{shl_is}
use Rattle.go_value.proofs.Wraps.{wrapped_wrap}
use Rattle.go_value.proofs.ints.shifted_near.Goals as goal

pub returns : goal.returns
returns c =
    let fits : FitsSigned w128 c.convert_int.result = search rules in
    let inner : FitsSigned w128 c.wrapping_shl.result = search rules in
    let small : c.args.count % 128 ≡ c.args.count = mod-eq_of_lt (omega arith) in
    to_z-of_z w128 c.convert_int.result fits
    ∙ c.convert_int.ensures
    ∙ ap (wrapped c.args.kind) (to_z-of_z w128 c.wrapping_shl.result inner)
    ∙ ap (wrapped c.args.kind) c.wrapping_shl.ensures
    ∙ ap (λ x. wrapped c.args.kind (int_shl w128 x (c.args.count % 128))) (to_z-of_z w128 c.args.a c.ranges.a)
    ∙ ap (λ k. wrapped c.args.kind (int_shl w128 c.args.a k)) small
    ∙ ap (wrapped c.args.kind) (shl_is c.args.a c.args.count c.ranges.a (omega arith))
    ∙ wrapped_wrap c.args.kind (c.args.a *ℤ pos (2 ^ c.args.count))
