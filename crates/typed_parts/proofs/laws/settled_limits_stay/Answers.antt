use Rattle.typed_parts.proofs.laws.settled_limits_stay.Goals as goal
use Rattle.typed_parts.proofs.Told.{settled_right}

pub returns : goal.returns
returns c = λ base p are_settled settled right.
    settled_right c.args.old.now c.args.later.now base p (λ a n h. c.settled_types_stay.ensures.leaves p a n are_settled h)
    (λ a n h. c.settled_types_stay.ensures.nesting p a n are_settled h) settled right
