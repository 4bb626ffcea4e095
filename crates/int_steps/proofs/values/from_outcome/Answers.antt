use Rattle.std.proofs.Common.{◌∙◌, ap, sym, rules}
use Rattle.std.specs.Int.{w128}
use Rattle.std.specs.Int.RustNames.{FitsSigned}
use Rattle.std.proofs.lemmas.Int.{to_z-of_z}
use Rattle.go_value.specs.Values.{number}
use Rattle.ssa_mean.specs.Comes.{of_result, then_to, to}
use Rattle.int_steps.proofs.values.from_outcome.Goals as goal

pub returns-in-Ok : goal.returns-in-Ok
returns-in-Ok c =
    let fits : FitsSigned w128 c.in-Ok.number = search rules in
    ap (λ outcome. then_to number (of_result outcome)) c.in-Ok.is
    ∙ ap to (sym (ap number (to_z-of_z w128 c.in-Ok.number fits)))
