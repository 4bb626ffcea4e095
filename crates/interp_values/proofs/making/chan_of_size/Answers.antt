use Rattle.std.proofs.Common.{ap, ◌∙◌, refl, None, Some}
use Rattle.std.specs.Int.{w128}
use Rattle.std.specs.Prelude.{if◌then◌else◌, unsigned_abs}
use Rattle.std.proofs.lemmas.Int.{to_z-of_z}
use Rattle.ssa_mean.specs.Making.{is_no_size}
use Rattle.interp_values.proofs.Made.{unsized}
use Rattle.interp_values.proofs.making.chan_of_size.Goals as goal

pub returns-in-None : goal.returns-in-None
returns-in-None c = (
  unsized (is_no_size c.args.leaves c.args.size) (unsigned_abs c.args.size) _ _
      (c.in-None.ensures
      ∙ ap (λ n. if is_no_size c.args.leaves n then None else Some (unsigned_abs n))
      (to_z-of_z w128 c.args.size c.ranges.size)),
  refl,
)
