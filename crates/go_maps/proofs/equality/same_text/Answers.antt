use Rattle.std.proofs.Common.{◌∙◌, ap, List, ℕ}
use Rattle.go_maps.specs.Equality.{same_numbers}
use Rattle.go_maps.proofs.Leaves.{pointwise_same}
use Rattle.go_maps.proofs.equality.same_text.Goals as goal

pub returns : goal.returns
returns c =
    c.eq.ensures ∙ pointwise_same c.as_slice.result.now c.as_slice-2.result.now
    ∙ ap (λ (xs : List ℕ). same_numbers xs c.as_slice-2.result.now) c.as_slice.ensures ∙ ap (same_numbers c.args.a.now) c.as_slice-2.ensures
