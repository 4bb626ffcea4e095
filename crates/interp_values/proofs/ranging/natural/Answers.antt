use Rattle.std.proofs.Common.{◌∙◌, ap, rules}
use Rattle.std.specs.Int.{w128}
use Rattle.std.specs.Int.RustNames.{FitsSigned}
use Rattle.std.proofs.lemmas.Int.{to_z-of_z}
use Rattle.go_value.specs.Values.{number}
use Rattle.interp_values.proofs.ranging.natural.Goals as goal

pub returns : goal.returns
returns c =
    let fits : FitsSigned w128 c.from.result = search rules in
    ap number (to_z-of_z w128 c.from.result fits ∙ c.from.ensures)
