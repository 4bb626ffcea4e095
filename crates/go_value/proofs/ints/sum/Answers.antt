use Rattle.std.proofs.Common.{rules, ◌∙◌, ap, ◌+ℤ◌}
use Rattle.std.specs.Int.RustNames.{FitsSigned}
use Rattle.std.specs.Int.{w128}
use Rattle.std.proofs.lemmas.Int.{to_z-of_z, wrapping_add_is}
use Rattle.go_value.specs.Ints.{wrapped}
use Rattle.go_value.proofs.Wraps.{wrapped_wrap}
use Rattle.go_value.proofs.ints.sum.Goals as goal

pub returns : goal.returns
returns c =
    let fits : FitsSigned w128 c.convert_int.result = search rules in
    to_z-of_z w128 c.convert_int.result fits
    ∙ c.convert_int.ensures
    ∙ ap (wrapped c.args.kind) (wrapping_add_is w128 c.args.a c.args.b c.ranges.a c.ranges.b)
    ∙ wrapped_wrap c.args.kind (c.args.a +ℤ c.args.b)
