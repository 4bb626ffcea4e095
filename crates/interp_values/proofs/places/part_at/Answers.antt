use Rattle.std.proofs.Common.{◌∙◌, ap, sym}
use Rattle.go_value.specs.Values.{pointer}
use Rattle.ssa_mean.specs.Comes.{to}
use Rattle.interp_values.proofs.Outcomes.{followed_is}
use Rattle.interp_values.proofs.places.part_at.Goals as goal

pub returns-in-Ok : goal.returns-in-Ok
returns-in-Ok c =
    followed_is c.args.address.now _ (λ nil. let no = c.in-Ok.ensures.nil.1 nil in cc)
    ∙ ap to (ap pointer (sym c.in-Ok.ensures.ok))
