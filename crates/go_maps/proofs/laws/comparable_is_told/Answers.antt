use Rattle.std.proofs.Common.{not, length, refl}
use Rattle.go_type.specs.Comparable.{incomparable_to}
use Rattle.go_type.proofs.Comparables.{comparable_iff}
use Rattle.go_maps.proofs.laws.comparable_is_told.Goals as goal

pub returns : goal.returns
returns c =
    let types = c.args.types.now in
    (λ of. not (incomparable_to (length types.terms) types of), λ of. comparable_iff types c.len.ensures.counts of (incomparable_to (length types.terms) types of) refl)
