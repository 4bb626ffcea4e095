use Rattle.type_bare.proofs.Known.{bare_stays}
use Rattle.type_bare.proofs.laws.bare_stays.Goals as goal

pub returns : goal.returns
returns c = bare_stays
