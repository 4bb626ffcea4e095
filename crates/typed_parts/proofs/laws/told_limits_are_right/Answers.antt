use Rattle.typed_parts.proofs.laws.told_limits_are_right.Goals as goal
use Rattle.typed_parts.proofs.Told.{limits_apart, stays_right, told_large, told_right}

pub returns : goal.returns
returns c = record { within = told_right; too_large = told_large; apart = limits_apart; stays = stays_right }
