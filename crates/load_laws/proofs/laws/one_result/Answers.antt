use Rattle.load_laws.proofs.OneResult.{one_result}
use Rattle.load_laws.proofs.laws.one_result.Goals as goal

pub returns : goal.returns
returns c = one_result
