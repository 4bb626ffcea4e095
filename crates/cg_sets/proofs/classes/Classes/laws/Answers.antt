use Rattle.cg_numbers.proofs.Lists.{once}
use Rattle.cg_sets.specs.contracts.classes.MethodNameEq.TheImpl.Laws as name_laws
use Rattle.cg_sets.specs.contracts.classes.MethodNamePartialEq.TheImpl as same_name
use Rattle.cg_sets.proofs.classes.Classes.laws.Goals as goal

pub returns : goal.returns
returns c = once same_name.ghosts.eq name_laws.laws-law.refl c.args.self.now.names.keys c.len-names.ensures.unique
