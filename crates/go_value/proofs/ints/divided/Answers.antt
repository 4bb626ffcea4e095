use Rattle.std.proofs.Common.{rules, ◌∙◌, ap}
use Rattle.std.specs.Int.RustNames.{FitsSigned, int_div}
use Rattle.std.specs.Int.{w128, cast_signed, cast_unsigned, int_wrapping_div}
use Rattle.std.proofs.lemmas.Int.{to_z-of_z}
use Rattle.go_value.specs.Ints.{wrapped}
use Rattle.go_value.proofs.Wraps.{wrapped_cast, quotient_below}
use Rattle.go_value.proofs.ints.divided.Goals as goal

pub returns : goal.returns
returns c =
    let fits : FitsSigned w128 c.convert_int.result = search rules in
    let inner : FitsSigned w128 c.wrapping_div.result = search rules in
    to_z-of_z w128 c.convert_int.result fits
    ∙ c.convert_int.ensures
    ∙ ap (wrapped c.args.kind) (to_z-of_z w128 c.wrapping_div.result inner)
    ∙ ap (wrapped c.args.kind) c.wrapping_div.ensures
    ∙ ap (λ x. wrapped c.args.kind (int_wrapping_div w128 x (cast_signed w128 (cast_unsigned w128 c.args.b)))) (to_z-of_z w128 c.args.a c.ranges.a)
    ∙ ap (λ y. wrapped c.args.kind (int_wrapping_div w128 c.args.a y)) (to_z-of_z w128 c.args.b c.ranges.b)
    ∙ wrapped_cast c.args.kind (int_div c.args.a c.args.b) (quotient_below c.args.a c.args.b c.ranges.a)
