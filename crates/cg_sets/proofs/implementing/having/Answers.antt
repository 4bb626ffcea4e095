use Rattle.std.proofs.lemmas.Result.{IfOk-weaker}
use Rattle.cg_sets.proofs.implementing.having.Goals as goal

pub returns : goal.returns
returns c = IfOk-weaker c.having_all.result _ _ (λ found e. (c.fewest-places.result.now, c.fewest-places.ensures, e)) c.having_all.ensures
