use Rattle.go_type.proofs.Kept.{kept_blank}
use Rattle.go_type.proofs.types.Types.set_blank.Goals as goal

pub invariant_of-self : goal.invariant_of-self
invariant_of-self c = kept_blank _ c.args.name c.self.invariant
