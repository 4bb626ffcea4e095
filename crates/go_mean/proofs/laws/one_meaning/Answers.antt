use Rattle.go_mean.proofs.Outcomes.{one_meaning_lem}
use Rattle.go_mean.proofs.laws.one_meaning.Goals as goal

pub returns : goal.returns
returns c = one_meaning_lem
