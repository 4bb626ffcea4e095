use Rattle.go_base.proofs.Texts.{distinct_none}
use Rattle.go_base.proofs.names.Names.new.Goals as goal

pub invariant_of-result : goal.invariant_of-result
invariant_of-result c = rw c.new.ensures.empty distinct_none
