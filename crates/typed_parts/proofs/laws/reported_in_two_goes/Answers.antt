use Rattle.typed_parts.proofs.laws.reported_in_two_goes.Goals as goal
use Rattle.typed_parts.proofs.Reports.{reported_after}

pub returns : goal.returns
returns c = reported_after
