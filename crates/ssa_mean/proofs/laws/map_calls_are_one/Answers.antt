use Rattle.ssa_mean.proofs.Mapped.{lookups_one, updates_one, deletes_one}
use Rattle.ssa_mean.proofs.laws.map_calls_are_one.Goals as goal

pub returns-clause-lookups : goal.returns-clause-lookups
returns-clause-lookups c = lookups_one

pub returns-clause-updates : goal.returns-clause-updates
returns-clause-updates c = updates_one

pub returns-clause-deletes : goal.returns-clause-deletes
returns-clause-deletes c = deletes_one
