use Rattle.std.proofs.Common.{◌≡◌, ◌∙◌, ◌-ℤ◌, ap, arith, neg_ℤ, pos, rules}
use Rattle.std.specs.Int.{int_wrapping_neg, w128}
use Rattle.std.specs.Int.RustNames.{FitsSigned}
use Rattle.std.proofs.lemmas.Int.{ints, to_z-of_z, wrapping_neg_is}
use Rattle.go_value.specs.Ints.{wrapped}
use Rattle.go_value.proofs.Wraps.{wrapped_wrap}
use Rattle.int_steps.proofs.arithmetic.negative.Goals as goal

pub returns : goal.returns
returns c =
    let fits : FitsSigned w128 c.convert_int.result = search rules in
    let inner : FitsSigned w128 c.wrapping_neg.result = search rules in
    let same : neg_ℤ c.args.number ≡ pos 0 -ℤ c.args.number = omega (arith, ints) in
    to_z-of_z w128 c.convert_int.result fits
    ∙ c.convert_int.ensures
    ∙ ap (wrapped c.args.kind) (to_z-of_z w128 c.wrapping_neg.result inner)
    ∙ ap (wrapped c.args.kind) c.wrapping_neg.ensures
    ∙ ap (λ n. wrapped c.args.kind (int_wrapping_neg w128 n)) (to_z-of_z w128 c.args.number c.ranges.number)
    ∙ ap (wrapped c.args.kind) (wrapping_neg_is w128 c.args.number c.ranges.number)
    ∙ wrapped_wrap c.args.kind (neg_ℤ c.args.number)
    ∙ ap (wrapped c.args.kind) same
