use Rattle.go_mean.proofs.Outcomes.{one_record_lem}
use Rattle.go_mean.proofs.laws.one_record.Goals as goal

pub returns : goal.returns
returns c = one_record_lem
