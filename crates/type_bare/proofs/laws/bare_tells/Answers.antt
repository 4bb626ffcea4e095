use Rattle.type_bare.proofs.Telling.{bare_tells}
use Rattle.type_bare.proofs.laws.bare_tells.Goals as goal

pub returns : goal.returns
returns c = λ known. bare_tells c.args.bare.now c.args.types.now c.laws.ensures known
