use Rattle.std.proofs.Common.{◌∙◌, ap, sym}
use Rattle.go_value.specs.Values.{Field}
use Rattle.ssa_mean.specs.Comes.{to}
use Rattle.interp_values.proofs.PartValues.{nth_is, read}
use Rattle.interp_values.proofs.places.nth_part.Goals as goal

pub returns-in_ok-copy-in-Some : goal.returns-in_ok-copy-in-Some
returns-in_ok-copy-in-Some c =
    let found = c.in-Some.ensures.lookup in
    nth_is c.args.parts.now c.args.place c.in-Some.part.now (read _ c.args.place c.in-Some.part.now found.3.0 found.1)
    ∙ ap to (ap (λ (part : Field). part.value) (sym c.part.view_is) ∙ sym c.in_ok-copy-in-Some.ensures)
